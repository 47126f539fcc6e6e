use Rattle.font_glyph.proofs.RecordLemmas.{components_of-is, components_of-tells}
use Rattle.font_glyph.proofs.laws.components_are_computed.Goals as goal

pub returns : goal.returns
returns c = λ b list. (components_of-tells b list, components_of-is b list)
