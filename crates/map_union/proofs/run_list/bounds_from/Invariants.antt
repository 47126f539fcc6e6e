use Rattle.std.proofs.Common.{◌+◌, ◌-◌, ◌≤◌, ◌<◌, length}
use Rattle.map_union.specs.Inside.{IsPast}
use Rattle.map_union.proofs.run_list.bounds_from.Given as goal

abbrev pub invariant-loop-step : goal.invariant-loop-step
invariant-loop-step l = record {
  past : IsPast l.runs l.from l.low;
  some : 0 < l.step;
  small : l.step ≤ l.low + 1;
}

abbrev pub decreases-loop-step : goal.decreases-loop-step
decreases-loop-step l = length l.runs - l.low
