use Rattle.font_variations.proofs.MadeLemmas.{length-made}
use Rattle.font_variations.proofs.laws.made_has_size.Goals as goal

pub returns : goal.returns
returns c = length-made
