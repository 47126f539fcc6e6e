use Rattle.std.proofs.Common.{ap, arith}
use Rattle.colour_tables.specs.MadePaints.{forest_layers}
use Rattle.colour_readers.specs.Subtrees.{tree_of}
use Rattle.colour_readers.proofs.SubtreeLemmas.{trees_end}
use Rattle.colour_writers.proofs.WrittenLemmas.{few_layers, layers_with}
use Rattle.colour_writers.proofs.made_trees.+count_layers.Goals as goal

pub overflow_add-count : goal.overflow_add-count
overflow_add-count t c =
    omega (
      arith,
      layers_with _ _ _ c.below.ensures.tree,
      c.loop-i.invariant,
      c.count_layers-count.ensures,
      few_layers (tree_of c.args.tree.now),
      c.requires,
    )

pub returns : goal.returns
returns t c =
    let none =
    ap forest_layers (trees_end c.loop-i.i (tree_of c.args.tree.now).below
    (omega (arith, c.loop-i-test.false, c.count_below-i-end.ensures.value))) in
    omega (arith, none, c.loop-i.invariant)
