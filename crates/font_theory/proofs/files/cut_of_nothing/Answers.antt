use Rattle.font_theory.proofs.WorkedLemmas.{cut-nothing}
use Rattle.font_theory.proofs.files.cut_of_nothing.Goals as goal

pub returns : goal.returns
returns c = cut-nothing
