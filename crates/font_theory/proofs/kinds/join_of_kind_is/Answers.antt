use Rattle.font_theory.specs.Kinds.{settings}
use Rattle.font_theory.proofs.KindLemmas.{divides, settings-are}
use Rattle.font_theory.specs.Kinds.{format_by}
use Rattle.font_theory.proofs.KindJoinLemmas.{joined-by}
use Rattle.font_theory.proofs.kinds.join_of_kind_is.Goals as goal

pub returns : goal.returns
unfolding format_by
returns c = λ kind. joined-by (settings kind) (settings-are kind) (divides kind)
