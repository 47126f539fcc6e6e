use Rattle.std.proofs.Common.{◌≤◌, ◌-◌}
use Rattle.codes.specs.CharacterMap.{IsUnmapped, clipped}
use Rattle.font_map.specs.Inside.{subtable_glyph}
use Rattle.font_map.proofs.subtable.Subtable.piece.Given as goal

abbrev pub invariant-loop-at : goal.invariant-loop-at
invariant-loop-at l =
    record {
      on : l.from ≤ l.at;
      none : IsUnmapped (clipped l.glyphs (subtable_glyph l.self)) l.from l.at;
    }

abbrev pub decreases-loop-at : goal.decreases-loop-at
decreases-loop-at l = 0x110000 - l.at
