use Rattle.std.proofs.Common.{◌≡◌, ◌+◌, ◌≤◌, ◌++◌}
use Rattle.colour_tables.specs.MadePaints.{place_rows, starts}
use Rattle.colour_tables.specs.PaintLists.{forest_size}
use Rattle.colour_readers.specs.Subtrees.{tree_of, trees_after}
use Rattle.colour_writers.proofs.made_trees.push_starts.Given as goal

abbrev pub invariant-loop-i : goal.invariant-loop-i
invariant-loop-i g l = record {
  put : l.made.items ++ place_rows l.list (starts l.place (trees_after l.i (tree_of l.tree).below))
      ≡ l.fn.made.items ++ place_rows l.list (starts l.at (tree_of l.tree).below);
  next : l.place + forest_size (trees_after l.i (tree_of l.tree).below) ≡ l.at + forest_size (tree_of l.tree).below;
  least : l.list ≤ l.place;
}
