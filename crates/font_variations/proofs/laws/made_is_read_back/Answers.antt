use Rattle.font_variations.proofs.LawLemmas.{made_read}
use Rattle.font_variations.proofs.laws.made_is_read_back.Goals as goal

pub returns : goal.returns
returns c = made_read
