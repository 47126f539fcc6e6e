use Rattle.std.proofs.Common.{◌≡◌, ◌++◌, drop}
use Rattle.colour_tables.specs.NamedGlyphs.{forest_names}
use Rattle.colour_tables.specs.PaintLists.{tree_size}
use Rattle.colour_tables.specs.Paints.{kinds_below}
use Rattle.colour_readers.specs.Subtrees.{tree_names, tree_of, trees_after}
use Rattle.colour_readers.proofs.glyph_names.+add_tree.Given as goal

abbrev pub decreases-add_tree : goal.decreases-add_tree
decreases-add_tree g l = tree_size (tree_of l.tree.now)

abbrev pub invariant-loop-i : goal.invariant-loop-i
invariant-loop-i g l =
    l.names.items
    ++ forest_names (drop l.i (kinds_below (tree_of l.tree).shape (tree_of l.tree).rest))
    (trees_after l.i (tree_of l.tree).below)
    ≡ l.fn.names.items ++ tree_names l.fn.kind (tree_of l.tree)
