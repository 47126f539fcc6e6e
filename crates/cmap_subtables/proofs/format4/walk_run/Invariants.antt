use Rattle.std.proofs.Common.{ℕ, ◌<◌, ◌≤◌, ◌+◌, ◌-◌}
use Rattle.codes.specs.CharacterMap.{clipped}
use Rattle.cmap_subtables.specs.Format4.{segment_count, segment_glyph}
use Rattle.cmap_subtables.specs.Inside.{segment_end}
use Rattle.codes.specs.Runs.{IsPiece}
use Rattle.cmap_subtables.proofs.format4.walk_run.Given as goal

abbrev pub invariant-loop-run : goal.invariant-loop-run
invariant-loop-run l =
    record {
      piece : IsPiece (clipped l.glyphs (segment_glyph l.s)) l.from l.run;
      within : l.place ≤ segment_count l.s;
      before : (k : ℕ) → k < l.place → segment_end l.s k < l.run.last + 1;
    }

abbrev pub decreases-loop-run : goal.decreases-loop-run
decreases-loop-run l = 0x10FFFF - l.run.last
