use Rattle.sequence_parts.proofs.GlyphLemmas.{font_glyphs}
use Rattle.sequence_parts.proofs.laws.font_has_its_glyphs.Goals as goal

pub returns : goal.returns
returns c = font_glyphs
