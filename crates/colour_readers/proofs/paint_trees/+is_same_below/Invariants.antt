use Rattle.std.proofs.Common.{◌-◌, drop}
use Rattle.colour_tables.specs.PaintLists.{layer_places_of}
use Rattle.colour_tables.specs.Paints.{links_of, tree_at}
use Rattle.colour_readers.proofs.SameLemmas.{AreBelow}
use Rattle.colour_readers.proofs.paint_trees.+is_same_below.Given as goal

abbrev pub decreases-is_same_below : goal.decreases-is_same_below
decreases-is_same_below l = l.depth

abbrev pub invariant-loop-i : goal.invariant-loop-i
invariant-loop-i l =
    AreBelow (tree_at l.n l.t (layer_places_of l.t) (l.depth - 1)) (tree_at l.n l.u (layer_places_of l.u) (l.depth - 1))
    (drop l.i (links_of (layer_places_of l.t) l.shape l.at (drop l.at l.t)))
    (drop l.i (links_of (layer_places_of l.u) l.shape l.other (drop l.other l.u)))
    (tree_at l.n l.t (layer_places_of l.t) l.depth l.at l.fn.kind)
    (tree_at l.n l.u (layer_places_of l.u) l.depth l.other l.fn.kind)
