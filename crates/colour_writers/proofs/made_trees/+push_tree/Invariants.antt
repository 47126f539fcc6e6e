use Rattle.std.proofs.Common.{◌≡◌, ◌+◌, ◌++◌}
use Rattle.colour_tables.specs.MadePaints.{forest_bytes, forest_layers}
use Rattle.colour_tables.specs.PaintLists.{tree_size}
use Rattle.colour_readers.specs.Subtrees.{tree_of, trees_after}
use Rattle.colour_writers.specs.Inside.{tree_bytes, tree_layers}
use Rattle.colour_writers.proofs.made_trees.+push_tree.Given as goal

abbrev pub decreases-push_tree : goal.decreases-push_tree
decreases-push_tree g l = tree_size (tree_of l.tree.now)

abbrev pub invariant-loop-i : goal.invariant-loop-i
invariant-loop-i g l = record {
  put : l.made.items ++ forest_bytes l.next (trees_after l.i (tree_of l.tree).below)
      ≡ l.fn.made.items ++ tree_bytes l.index (tree_of l.tree);
  next : l.next + forest_layers (trees_after l.i (tree_of l.tree).below) ≡ l.index + tree_layers (tree_of l.tree);
}
