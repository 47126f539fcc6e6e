use Rattle.font_theory.proofs.OurFormatLemmas.{Arises-closed}
use Rattle.font_theory.proofs.files.closed_arises.Goals as goal

pub returns : goal.returns
returns c = Arises-closed
