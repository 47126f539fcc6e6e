use Rattle.std.proofs.Common.{true, ◌≡◌, ◌++◌, ◌-◌}
use Rattle.codes.specs.CharacterMap.{restricted}
use Rattle.codes.specs.Runs.{IsNext, groups_from}
use Rattle.font_file.specs.Font.{map_of}
use Rattle.font_subset.proofs.selection.Charted.runs.Given as goal

abbrev pub invariant-loop-ahead : goal.invariant-loop-ahead
invariant-loop-ahead g l = record {
  done : l.runs.items ++ groups_from (restricted (λ _. true) (map_of l.self)) l.from
      ≡ groups_from (restricted (λ _. true) (map_of l.self)) 0;
  next : IsNext (restricted (λ _. true) (map_of l.self)) l.from l.ahead;
}

abbrev pub decreases-loop-ahead : goal.decreases-loop-ahead
decreases-loop-ahead g l = 0x110000 - l.from
