use Rattle.font_theory.proofs.WritingSizeLemmas.{size-second}
use Rattle.font_theory.proofs.files.size_in_second_profile.Goals as goal

pub returns : goal.returns
returns c = size-second
