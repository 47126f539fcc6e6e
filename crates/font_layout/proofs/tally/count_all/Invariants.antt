use Rattle.std.proofs.Common.{◌≡◌, ◌+◌, ◌≤◌}
use Rattle.font_layout.specs.Inside.{after_all, start_tally}
use Rattle.font_layout.specs.declared.layout.TheConstants.{STEP_LIMIT}
use Rattle.font_layout.proofs.tally.count_all.Given as goal

abbrev pub invariant-loop-step : goal.invariant-loop-step
invariant-loop-step l =
    record {
      counted : after_all l.tally l.step-iterator ≡ after_all start_tally l.fn.steps;
      few : l.tally.links + l.tally.left ≤ STEP_LIMIT;
      small : l.tally.numbers ≤ 65536;
    }
