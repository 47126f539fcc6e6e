use Rattle.std.proofs.Common.{arith}
use Rattle.codes.proofs.OrderLemmas.{halves_down, halves_up}
use Rattle.codes.proofs.search.searched.Goals as goal

pub loop-low-preserved-then-end_at-code : goal.loop-low-preserved-then-end_at-code
loop-low-preserved-then-end_at-code g c = halves_up _ _ _ _ _ _ c.requires c.loop-low.invariant (omega arith)
    (omega arith) (omega arith)

pub loop-low-preserved : goal.loop-low-preserved
loop-low-preserved g c = halves_down _ _ _ _ _ _ c.requires c.loop-low.invariant (omega arith) (omega arith)
    (omega arith)
