use Rattle.font_theory.proofs.WritingSizeLemmas.{sizes-apart}
use Rattle.font_theory.proofs.files.writing_sizes_are_apart.Goals as goal

pub returns : goal.returns
returns c = sizes-apart
