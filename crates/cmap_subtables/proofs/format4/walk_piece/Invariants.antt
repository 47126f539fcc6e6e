use Rattle.std.proofs.Common.{ℕ, ◌<◌, ◌≤◌, ◌-◌}
use Rattle.codes.specs.CharacterMap.{IsUnmapped, clipped}
use Rattle.cmap_subtables.specs.Format4.{segment_count, segment_glyph}
use Rattle.cmap_subtables.specs.Inside.{segment_end}
use Rattle.cmap_subtables.proofs.format4.walk_piece.Given as goal

abbrev pub invariant-loop-at : goal.invariant-loop-at
invariant-loop-at l =
    record {
      on : l.from ≤ l.at;
      none : IsUnmapped (clipped l.glyphs (segment_glyph l.s)) l.from l.at;
      within : l.place ≤ segment_count l.s;
      before : (k : ℕ) → k < l.place → segment_end l.s k < l.at;
    }

abbrev pub decreases-loop-at : goal.decreases-loop-at
decreases-loop-at l = 0x110000 - l.at
