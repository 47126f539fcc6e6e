use Rattle.std.proofs.Common.{◌≡◌, ◌+◌, ◌≤◌, ◌++◌}
use Rattle.colour_tables.specs.MadePaints.{forest_places, place_rows}
use Rattle.colour_tables.specs.PaintLists.{forest_size, tree_size}
use Rattle.colour_readers.specs.Subtrees.{tree_of, trees_after}
use Rattle.colour_writers.specs.Inside.{tree_places}
use Rattle.colour_writers.proofs.made_trees.+push_places.Given as goal

abbrev pub decreases-push_places : goal.decreases-push_places
decreases-push_places g l = tree_size (tree_of l.tree.now)

abbrev pub invariant-loop-i : goal.invariant-loop-i
invariant-loop-i g l = record {
  put : l.made.items ++ place_rows l.list (forest_places l.place (trees_after l.i (tree_of l.tree).below))
      ≡ l.fn.made.items ++ place_rows l.list (tree_places l.at (tree_of l.tree));
  next : l.place + forest_size (trees_after l.i (tree_of l.tree).below) ≡ l.at + tree_size (tree_of l.tree);
  least : l.list ≤ l.place;
}
