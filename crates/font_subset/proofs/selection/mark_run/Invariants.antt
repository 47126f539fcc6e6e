use Rattle.std.proofs.Common.{◌≤◌, ◌-◌}
use Rattle.font_subset.specs.Inside.{AreMarked}
use Rattle.font_subset.proofs.selection.mark_run.Given as goal

abbrev pub invariant-loop-g : goal.invariant-loop-g
invariant-loop-g g l = record {
  from : l.fn.run.glyph ≤ l.g;
  marked : AreMarked l.fn.marks l.marks l.fn.run.glyph (l.g - l.fn.run.glyph);
}
