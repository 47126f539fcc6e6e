use Rattle.font_theory.specs.Kinds.{settings}
use Rattle.font_theory.proofs.KindLemmas.{divides, settings-are}
use Rattle.font_theory.proofs.KindJoinLemmas.{agree-files}
use Rattle.font_theory.proofs.kinds.agreement_is.Goals as goal

pub returns : goal.returns
returns c = λ kind X Y x y. agree-files (settings kind) (settings-are kind) (divides kind) X Y
