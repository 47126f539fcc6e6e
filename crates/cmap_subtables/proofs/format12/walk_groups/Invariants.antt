use Rattle.std.proofs.Common.{◌≡◌, drop, find}
use Rattle.cmap_subtables.specs.Format12.{group_count, groups_of, holds}
use Rattle.cmap_subtables.proofs.format12.walk_groups.Given as goal

abbrev pub invariant-loop-i : goal.invariant-loop-i
invariant-loop-i l =
    record {
      left : find (holds l.code) (drop l.i (groups_of l.s)) ≡ find (holds l.code) (groups_of l.s);
      count : l.count ≡ group_count l.s;
    }
