use Rattle.font_theory.proofs.SizeLemmas.{length-file}
use Rattle.font_theory.proofs.files.file_size.Goals as goal

pub returns : goal.returns
returns c = length-file
