use Rattle.commands.proofs.GlyphsLemmas.{glyph_fits}
use Rattle.commands.proofs.mapped_glyphs.Glyphs.line.Goals as goal

pub metric-advance-requires : goal.metric-advance-requires
metric-advance-requires g c = glyph_fits _ _ c.args.place c.self.view_is c.requires
