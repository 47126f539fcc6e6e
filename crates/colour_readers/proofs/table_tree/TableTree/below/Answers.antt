use Rattle.std.proofs.Common.{◌∙◌, ◌+◌, ap, sym, unwrap_or, Option}
use Rattle.colour_tables.specs.Paints.{Tree, with_tree}
use Rattle.colour_readers.specs.Subtrees.{no_tree, tree_of, trees_after}
use Rattle.colour_readers.proofs.TableTreeLemmas.{below_known, below_smaller}
use Rattle.colour_readers.proofs.table_tree.TableTree.below.Goals as goal

pub tree_from-requires : goal.tree_from-requires
tree_from-requires c = (below_known c.args.self.now c.args.i _ c.requires c.link_at-place.ensures).some

pub returns-clause-tree : goal.returns-clause-tree
returns-clause-tree c =
    (below_known c.args.self.now c.args.i _ c.requires c.link_at-place.ensures).tree
    ∙ ap (λ (o : Option Tree). with_tree (unwrap_or o no_tree)
    (trees_after (c.args.i + 1) (tree_of c.args.self.now).below)) (sym c.tree_from.ensures)

pub returns-clause-smaller : goal.returns-clause-smaller
returns-clause-smaller c =
    below_smaller c.args.i (tree_of c.args.self.now) _ _
    ((below_known c.args.self.now c.args.i _ c.requires c.link_at-place.ensures).tree
    ∙ ap (λ (o : Option Tree). with_tree (unwrap_or o no_tree)
    (trees_after (c.args.i + 1) (tree_of c.args.self.now).below)) (sym c.tree_from.ensures))
