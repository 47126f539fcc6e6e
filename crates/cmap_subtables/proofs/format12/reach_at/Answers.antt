use Rattle.std.proofs.Common.{arith}
use Rattle.cmap_subtables.proofs.GroupLemmas.{reach_at, reach_past}
use Rattle.cmap_subtables.proofs.format12.reach_at.Goals as goal

pub returns-then-i-count_groups-clause-found : goal.returns-then-i-count_groups-clause-found
returns-then-i-count_groups-clause-found c = λ code x y. reach_past _ _ _ c.requires.place (omega arith) code x

pub returns-clause-found : goal.returns-clause-found
returns-clause-found c = (
  omega arith,
  reach_at _ _ _ _ _ c.requires.order c.requires.place (omega arith) c.group_at-group.ensures.value
      (omega arith),
)
