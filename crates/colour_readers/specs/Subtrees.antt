-- Trees that a table has, one by one: words of contracts.
use Rattle.std.specs.Prelude.{ℕ, zero, suc, ◌++◌, List, [], unwrap_or}
use Rattle.colour_tables.specs.NamedGlyphs.{forest_names, named_by}
use Rattle.colour_tables.specs.PaintLists.{layer_places_of}
use Rattle.colour_tables.specs.Paints.{Bare, Forest, Tree, With, kinds_below, tree_at}
use Rattle.colour_tables.specs.declared.shape.Kind.{Kind}
use Rattle.colour_tables.specs.declared.shape.Shape.TheVariants.{Plain}
use Rattle.colour_readers.specs.declared.table_tree.TableTree.{TableTree}

-- trees in a row, but for so many in front
abbrev pub trees_after : ℕ → Forest → Forest
trees_after zero f = f
trees_after (suc i) Bare = Bare
trees_after (suc i) (With s first rest below after) = trees_after i after

-- the tree that stands for none
abbrev pub no_tree : Tree
no_tree = record { shape = Plain 0; first = 0; rest = []; below = Bare }

-- the glyphs that a tree of a kind names
abbrev pub tree_names : Kind → Tree → List ℕ
tree_names k tree =
    named_by k tree.first tree.rest ++ forest_names (kinds_below tree.shape tree.rest) tree.below

-- the tree that a table has at a place
unfoldable pub tree_of : TableTree → Tree
tree_of x = unwrap_or (tree_at x.count x.bytes.now (layer_places_of x.bytes.now) x.depth x.at x.kind) no_tree
