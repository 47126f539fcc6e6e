use Rattle.fontcut_c.specs.Glyphs.{AreGlyphsTo}
use Rattle.fontcut_c.proofs.glyph_metrics.first_no_glyph.Given as goal

-- each number so far is a glyph
abbrev pub invariant-loop-index : goal.invariant-loop-index
invariant-loop-index l = AreGlyphsTo l.font l.glyphs l.index
