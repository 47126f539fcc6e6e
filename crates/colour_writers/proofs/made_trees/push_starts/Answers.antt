use Rattle.std.proofs.Common.{arith}
use Rattle.colour_readers.specs.Subtrees.{tree_of}
use Rattle.colour_writers.proofs.WrittenLemmas.{starts_end}
use Rattle.colour_writers.proofs.made_trees.push_starts.Goals as goal

pub returns-clause-made : goal.returns-clause-made
returns-clause-made g c =
    starts_end c.loop-i.made.items _ c.args.list c.loop-i.place c.loop-i.i (tree_of c.args.tree.now).below
    (omega (arith, c.loop-i-test.false, c.count_below-i-end.ensures.value)) c.loop-i.invariant.put
