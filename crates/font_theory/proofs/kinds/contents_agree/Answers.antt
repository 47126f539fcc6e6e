use Rattle.font_theory.specs.Kinds.{settings}
use Rattle.font_theory.proofs.KindLemmas.{divides, settings-are}
use Rattle.font_theory.proofs.KindJoinLemmas.{agree-contents}
use Rattle.font_theory.proofs.kinds.contents_agree.Goals as goal

pub returns : goal.returns
returns c = λ kind. agree-contents (settings kind) (settings-are kind) (divides kind)
