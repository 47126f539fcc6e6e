use Rattle.font_theory.specs.Kinds.{settings}
use Rattle.font_theory.proofs.KindLemmas.{settings-are}
use Rattle.font_theory.proofs.ClosedLemmas.{cut-linked}
use Rattle.font_theory.proofs.closing.linked_cut_is_cut.Goals as goal

pub returns : goal.returns
returns c = λ kind file links codes accepted by. cut-linked (settings kind) (settings-are kind) links codes file
    accepted by
