use Rattle.font_theory.proofs.ClosedLemmas.{closed-either}
use Rattle.font_theory.proofs.closing.closed_of_either.Goals as goal

pub returns : goal.returns
returns c = closed-either
