use Rattle.std.proofs.Common.{◌≡◌, ℕ, ◌<◌, ◌≤◌, drop, find}
use Rattle.cmap_subtables.specs.Format12.{group_count, groups_of, holds}
use Rattle.cmap_subtables.proofs.format12.walk_reach.Given as goal

abbrev pub invariant-loop-i : goal.invariant-loop-i
invariant-loop-i l =
    record {
      count : l.count ≡ group_count l.s;
      order : l.from < l.stop;
      small : l.stop ≤ 0x110000;
      left : (c : ℕ) → l.from ≤ c → c < l.stop → find (holds c) (groups_of l.s)
          ≡ find (holds c) (drop l.i (groups_of l.s));
    }
