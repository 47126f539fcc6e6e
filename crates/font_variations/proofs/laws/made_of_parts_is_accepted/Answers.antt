use Rattle.font_variations.proofs.LawLemmas.{parts_accepted}
use Rattle.font_variations.proofs.laws.made_of_parts_is_accepted.Goals as goal

pub returns : goal.returns
returns c = parts_accepted
