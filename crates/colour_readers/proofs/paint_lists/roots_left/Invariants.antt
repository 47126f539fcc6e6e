use Rattle.std.proofs.Common.{◌≡◌, ◌≤◌, drop}
use Rattle.colour_tables.specs.PaintLists.{roots_of}
use Rattle.colour_readers.specs.Rooms.{roots_left}
use Rattle.colour_readers.proofs.paint_lists.roots_left.Given as goal

abbrev pub invariant-loop-i : goal.invariant-loop-i
invariant-loop-i l = record {
  same : roots_left l.n l.t l.room 0 (roots_of l.t) ≡ roots_left l.n l.t l.left l.from (drop l.i (roots_of l.t));
  most : l.left ≤ l.room;
}
