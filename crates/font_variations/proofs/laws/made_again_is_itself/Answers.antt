use Rattle.font_variations.proofs.LawLemmas.{made_again}
use Rattle.font_variations.proofs.laws.made_again_is_itself.Goals as goal

pub returns : goal.returns
returns c = made_again
