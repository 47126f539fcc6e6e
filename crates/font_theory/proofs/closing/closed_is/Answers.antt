use Rattle.std.proofs.Common.{refl}
use Rattle.font_theory.specs.Closed.{closed}
use Rattle.font_theory.proofs.ClosedLemmas.{closed-again, closed-decides, closed-has}
use Rattle.font_theory.proofs.closing.closed_is.Goals as goal

pub returns : goal.returns
unfolding closed
returns c = λ links m W. (
  refl,
  (λ g. let d = closed-decides links m W g in (d.0, d.1)),
  closed-has links m W,
  closed-again links m W,
)
