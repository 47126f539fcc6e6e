use Rattle.std.proofs.Common.{◌≤◌, ◌-◌, length}
use Rattle.font_glyph.specs.Marks.{NoMark}
use Rattle.font_glyph.proofs.marks.pass_blocks.Given as goal

abbrev pub invariant-loop-at : goal.invariant-loop-at
invariant-loop-at l =
    record {
      order : l.fn.from ≤ l.at;
      within : l.at ≤ length l.marks;
      passed : NoMark l.marks l.fn.from l.at;
    }

abbrev pub decreases-loop-at : goal.decreases-loop-at
decreases-loop-at l = length l.marks - l.at
