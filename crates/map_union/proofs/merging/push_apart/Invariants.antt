use Rattle.std.proofs.Common.{◌-◌, ◌≤◌}
use Rattle.codes.specs.CharacterMap.{united}
use Rattle.codes.specs.Runs.{spelled}
use Rattle.map_union.specs.Inside.{ArePast, IsDone}
use Rattle.map_union.proofs.merging.push_apart.Given as goal

abbrev pub invariant-loop-stretch : goal.invariant-loop-stretch
invariant-loop-stretch g l = record {
  done : IsDone (united (spelled l.a) (spelled l.b)) l.runs.items l.at.code;
  past : ArePast l.a l.b l.at.code l.at.places.first l.at.places.second;
  order : l.fn.from.code ≤ l.at.code;
  small : l.at.code ≤ 0x110000;
}

abbrev pub decreases-loop-stretch : goal.decreases-loop-stretch
decreases-loop-stretch g l = 0x110000 - l.at.code
