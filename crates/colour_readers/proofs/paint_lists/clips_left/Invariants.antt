use Rattle.std.proofs.Common.{◌≡◌, ◌≤◌, drop}
use Rattle.colour_tables.specs.PaintLists.{clips_of}
use Rattle.colour_readers.specs.Rooms.{clips_left}
use Rattle.colour_readers.proofs.paint_lists.clips_left.Given as goal

abbrev pub invariant-loop-i : goal.invariant-loop-i
invariant-loop-i l = record {
  same : clips_left l.n l.t l.room 0 (clips_of l.t) ≡ clips_left l.n l.t l.left l.from (drop l.i (clips_of l.t));
  most : l.left ≤ 16777215;
}
