use Rattle.sequence_parts.proofs.GlyphLemmas.{table_glyphs}
use Rattle.sequence_parts.proofs.laws.table_has_its_glyphs.Goals as goal

pub returns : goal.returns
returns c = table_glyphs
