use Rattle.std.proofs.Common.{◌≡◌, ◌-◌, drop}
use Rattle.colour_tables.specs.PaintLists.{layer_places_of, tree_size}
use Rattle.colour_tables.specs.Paints.{links_of, tree_at}
use Rattle.colour_readers.specs.Trees.{room_left, rooms}
use Rattle.colour_readers.proofs.paint_trees.+room_after.Given as goal

abbrev pub decreases-room_after : goal.decreases-room_after
decreases-room_after l = l.depth

abbrev pub invariant-loop-i : goal.invariant-loop-i
invariant-loop-i l =
    room_left tree_size l.room (tree_at l.n l.t (layer_places_of l.t) l.depth l.at l.fn.kind)
    ≡ rooms (tree_at l.n l.t (layer_places_of l.t) (l.depth - 1)) l.left
    (drop l.i (links_of (layer_places_of l.t) l.shape l.at (drop l.at l.t)))
