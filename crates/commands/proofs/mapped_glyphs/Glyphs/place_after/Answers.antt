use Rattle.std.proofs.Common.{refl}
use Rattle.commands.proofs.GlyphsLemmas.{place_in_run}
use Rattle.commands.proofs.mapped_glyphs.Glyphs.place_after.Goals as goal

pub returns-then-place : goal.returns-then-place
returns-then-place g c = place_in_run _ c.args.place _ c.requires c.if-place.true refl refl
