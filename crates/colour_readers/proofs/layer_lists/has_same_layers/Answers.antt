use Rattle.std.proofs.Common.{arith}
use Rattle.colour_readers.proofs.LayerListLemmas.{same_end, same_length}
use Rattle.colour_readers.proofs.layer_lists.has_same_layers.Goals as goal

pub returns-then-count-other-clause-other : goal.returns-then-count-other-clause-other
returns-then-count-other-clause-other c _ e =
    let same = same_length _ _ c.args.base c.args.other e in omega (arith, same, c.if-count-other.true)

pub returns-clause-same : goal.returns-clause-same
returns-clause-same c _ =
    same_end c.args.t.now c.args.u.now c.args.base c.args.other c.loop-j.j (omega arith) (omega arith)
    c.loop-j.invariant
