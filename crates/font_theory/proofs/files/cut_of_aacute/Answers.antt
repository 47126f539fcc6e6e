use Rattle.font_theory.proofs.WorkedLemmas.{cut-aacute}
use Rattle.font_theory.proofs.files.cut_of_aacute.Goals as goal

pub returns : goal.returns
returns c = cut-aacute
