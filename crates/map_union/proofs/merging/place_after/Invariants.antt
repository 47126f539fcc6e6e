use Rattle.std.proofs.Common.{◌-◌, length}
use Rattle.map_union.specs.Inside.{IsPast}
use Rattle.map_union.proofs.merging.place_after.Given as goal

abbrev pub invariant-loop-at : goal.invariant-loop-at
invariant-loop-at l = IsPast l.runs l.from l.at

abbrev pub decreases-loop-at : goal.decreases-loop-at
decreases-loop-at l = length l.runs - l.at
