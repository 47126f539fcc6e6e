use Rattle.std.proofs.Common.{arith, ◌+◌, ◌-◌, ◌/◌, ◌<◌, ℕ}
use Rattle.map_union.proofs.RunListLemmas.{middle_past}
use Rattle.map_union.proofs.run_list.place_between.Goals as goal

pub loop-low-preserved-then-runs-middle : goal.loop-low-preserved-then-runs-middle
loop-low-preserved-then-runs-middle c =
    let middle : ℕ = c.loop-low.low + (c.loop-low.high - c.loop-low.low) / 2 in
    let below : middle < c.loop-low.high = omega (arith, c.loop-low-test.true) in
    middle_past c.args.runs.now c.args.from c.loop-low.low c.loop-low.high middle c.requires.runs c.loop-low.invariant
    (omega arith) below c.if-runs-middle.true
