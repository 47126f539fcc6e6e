use Rattle.std.proofs.Common.{ℕ, ◌-◌, ◌≤◌}
use Rattle.codes.specs.CharacterMap.{clipped}
use Rattle.cmap_subtables.specs.Inside.{glyph_of_segment}
use Rattle.codes.specs.Runs.{IsPiece}
use Rattle.cmap_subtables.proofs.format4.along_codes.Given as goal

abbrev pub invariant-loop-run : goal.invariant-loop-run
invariant-loop-run l =
    record {
      bound : l.stop ≤ l.segment.last;
      order : l.run.first ≤ l.run.last;
      piece : (from : ℕ) → IsPiece (clipped l.glyphs (glyph_of_segment l.s l.segment)) from l.fn.piece
          → IsPiece (clipped l.glyphs (glyph_of_segment l.s l.segment)) from l.run;
    }

abbrev pub decreases-loop-run : goal.decreases-loop-run
decreases-loop-run l = l.stop - l.run.last
