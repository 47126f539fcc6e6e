use Rattle.std.proofs.Common.{◌≡◌, ℕ, ◌+◌, ◌-◌, arith, subst}
use Rattle.map_union.specs.Inside.{IsPast}
use Rattle.map_union.proofs.RunListLemmas.{past_middle}
use Rattle.map_union.proofs.run_list.bounds_from.Goals as goal

pub loop-step-preserved : goal.loop-step-preserved
loop-step-preserved c =
    let behind : c.loop-step.low + c.loop-step.step - 1 + 1 ≡ c.loop-step.low + c.loop-step.step =
    omega (arith, c.loop-step.invariant.some) in
    record {
      past = subst (λ (place : ℕ). IsPast c.args.runs.now c.args.from place) behind
          (past_middle c.args.runs.now c.args.from (c.loop-step.low + c.loop-step.step - 1) c.requires.runs
          (omega (arith, c.loop-step.invariant.some, c.loop-step-test.true)) (omega (arith, c.if-from-runs.false)));
      some = omega (arith, c.loop-step.invariant.some);
      small = omega (arith, c.loop-step.invariant.small);
    }
