use Rattle.std.proofs.Common.{◌∙◌, sym}
use Rattle.colour_tables.specs.PaintLists.{layer_places_of}
use Rattle.colour_readers.proofs.SubtreeLemmas.{no_shape_no_tree}
use Rattle.colour_readers.proofs.TableTreeLemmas.{some_tree}
use Rattle.colour_readers.proofs.subtrees.tree_from.Goals as goal

pub unreachable-requires : goal.unreachable-requires
unreachable-requires c =
    no_shape_no_tree _ _ (layer_places_of c.args.bytes.now) c.args.depth _ _ c.requires
    (sym c.in_default.is ∙ c.shape_at.ensures.value)

pub returns : goal.returns
returns c = some_tree _
