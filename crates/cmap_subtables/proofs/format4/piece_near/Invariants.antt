use Rattle.std.proofs.Common.{◌≤◌, ◌-◌}
use Rattle.codes.specs.CharacterMap.{IsUnmapped, clipped}
use Rattle.cmap_subtables.specs.Format4.{segment_glyph}
use Rattle.cmap_subtables.proofs.format4.piece_near.Given as goal

abbrev pub invariant-loop-at : goal.invariant-loop-at
invariant-loop-at l =
    record {
      on : l.from ≤ l.at;
      none : IsUnmapped (clipped l.glyphs (segment_glyph l.segments)) l.from l.at;
    }

abbrev pub decreases-loop-at : goal.decreases-loop-at
decreases-loop-at l = 0x110000 - l.at
