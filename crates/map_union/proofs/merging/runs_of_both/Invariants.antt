use Rattle.std.proofs.Common.{◌≡◌, ◌++◌, ◌-◌}
use Rattle.codes.specs.CharacterMap.{united}
use Rattle.codes.specs.Runs.{IsNext, groups_from, spelled}
use Rattle.map_union.specs.Inside.{ArePast}
use Rattle.map_union.proofs.merging.runs_of_both.Given as goal

abbrev pub invariant-loop-ahead : goal.invariant-loop-ahead
invariant-loop-ahead g l = record {
  done : l.runs.items ++ groups_from (united (spelled l.a) (spelled l.b)) l.from
      ≡ groups_from (united (spelled l.a) (spelled l.b)) 0;
  next : IsNext (united (spelled l.a) (spelled l.b)) l.from l.ahead;
  past : ArePast l.a l.b l.from l.places.first l.places.second;
}

abbrev pub decreases-loop-ahead : goal.decreases-loop-ahead
decreases-loop-ahead g l = 0x110000 - l.from
