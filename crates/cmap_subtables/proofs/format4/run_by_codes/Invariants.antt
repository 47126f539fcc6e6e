use Rattle.codes.specs.CharacterMap.{IsUnmapped, clipped}
use Rattle.cmap_subtables.specs.Inside.{glyph_of_segment}
use Rattle.cmap_subtables.proofs.format4.run_by_codes.Given as goal

abbrev pub invariant-loop-code : goal.invariant-loop-code
invariant-loop-code l = IsUnmapped (clipped l.glyphs (glyph_of_segment l.s l.segment)) l.from l.code
