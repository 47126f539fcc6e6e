use Rattle.font_variations.proofs.LawLemmas.{made_accepted}
use Rattle.font_variations.proofs.laws.made_is_accepted.Goals as goal

pub returns : goal.returns
returns c = λ front shared of_glyph n fvar fit axes. made_accepted front shared of_glyph n fit fvar axes
