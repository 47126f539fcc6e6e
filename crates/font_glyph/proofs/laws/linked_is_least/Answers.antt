use Rattle.font_glyph.proofs.LinkedLemmas.{Linked-closed, Linked-within}
use Rattle.font_glyph.proofs.laws.linked_is_least.Goals as goal

pub returns : goal.returns
returns c = λ links seeds limit. (Linked-closed links seeds limit, Linked-within links seeds limit)
