use Rattle.std.proofs.Common.{◌-◌}
use Rattle.map_union.specs.Inside.{IsBetween}
use Rattle.map_union.proofs.run_list.place_between.Given as goal

abbrev pub invariant-loop-low : goal.invariant-loop-low
invariant-loop-low l = IsBetween l.runs l.from l.low l.high

abbrev pub decreases-loop-low : goal.decreases-loop-low
decreases-loop-low l = l.high - l.low
