use Rattle.font_variations.proofs.ByteLemmas.{made_of_bytes}
use Rattle.font_variations.proofs.laws.made_is_of_bytes.Goals as goal

pub returns : goal.returns
returns c = made_of_bytes
