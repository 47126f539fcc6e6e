use Rattle.std.proofs.Common.{ap, arith}
use Rattle.colour_tables.specs.MadePaints.{forest_layers}
use Rattle.colour_readers.specs.Subtrees.{tree_of}
use Rattle.colour_readers.proofs.SubtreeLemmas.{trees_end}
use Rattle.colour_writers.proofs.WrittenLemmas.{bytes_end}
use Rattle.colour_writers.proofs.made_trees.+push_tree.Goals as goal

pub returns-clause-made : goal.returns-clause-made
returns-clause-made g t c =
    bytes_end c.loop-i.made.items _ c.loop-i.next c.loop-i.i (tree_of c.args.tree.now).below
    (omega (arith, c.loop-i-test.false, c.count_below-i-end.ensures.value)) c.loop-i.invariant.put

pub returns-clause-next : goal.returns-clause-next
returns-clause-next g t c =
    let none =
    ap forest_layers (trees_end c.loop-i.i (tree_of c.args.tree.now).below
    (omega (arith, c.loop-i-test.false, c.count_below-i-end.ensures.value))) in
    omega (arith, none, c.loop-i.invariant.next)
