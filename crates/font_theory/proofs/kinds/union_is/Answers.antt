use Rattle.font_theory.specs.Kinds.{settings}
use Rattle.font_theory.proofs.KindLemmas.{divides, settings-are}
use Rattle.font_theory.proofs.KindJoinLemmas.{unions}
use Rattle.font_theory.proofs.kinds.union_is.Goals as goal

pub returns : goal.returns
returns c = λ kind. unions (settings kind) (settings-are kind) (divides kind)
