use Rattle.font_theory.specs.Kinds.{settings}
use Rattle.font_theory.proofs.ClosedLemmas.{closed-on_cut}
use Rattle.font_theory.proofs.KindLemmas.{settings-are}
use Rattle.font_theory.proofs.closing.closed_on_cut.Goals as goal

pub returns : goal.returns
returns c = λ kind file accepted V small W.
    closed-on_cut (settings kind) (settings-are kind) file accepted V small W
