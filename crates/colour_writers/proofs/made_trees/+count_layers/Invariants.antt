use Rattle.std.proofs.Common.{◌≡◌, ◌+◌}
use Rattle.colour_tables.specs.MadePaints.{forest_layers}
use Rattle.colour_tables.specs.PaintLists.{tree_size}
use Rattle.colour_readers.specs.Subtrees.{tree_of, trees_after}
use Rattle.colour_writers.specs.Inside.{tree_layers}
use Rattle.colour_writers.proofs.made_trees.+count_layers.Given as goal

abbrev pub decreases-count_layers : goal.decreases-count_layers
decreases-count_layers l = tree_size (tree_of l.tree.now)

abbrev pub invariant-loop-i : goal.invariant-loop-i
invariant-loop-i l =
    l.count + forest_layers (trees_after l.i (tree_of l.tree).below) ≡ tree_layers (tree_of l.tree)
