use Rattle.font_glyph.proofs.LinkedLemmas.{is_linked-decides}
use Rattle.font_glyph.proofs.laws.linked_is_computed.Goals as goal

pub returns : goal.returns
returns c = λ links seeds limit g. let decides = is_linked-decides links seeds limit g in (decides.0, decides.1)
