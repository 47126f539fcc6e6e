use Rattle.font_theory.proofs.WritingSizeLemmas.{size-first}
use Rattle.font_theory.proofs.files.size_in_first_profile.Goals as goal

pub returns : goal.returns
returns c = size-first
