use Rattle.std.proofs.Common.{◌≡◌, ◌≤◌, ◌^◌, drop}
use Rattle.codes.specs.Order.{AreInOrder}
use Rattle.cmap_subtables.specs.Format12.{HasOrderedGroups, group_count, groups_of}
use Rattle.cmap_subtables.proofs.format12.has_ordered_groups.Given as goal

abbrev pub invariant-loop-i : goal.invariant-loop-i
invariant-loop-i l =
    record {
      into : AreInOrder (λ g. g.first) (λ g. g.last) l.low (drop l.i (groups_of l.s)) → HasOrderedGroups l.s;
      out : HasOrderedGroups l.s → AreInOrder (λ g. g.first) (λ g. g.last) l.low (drop l.i (groups_of l.s));
      small : l.low ≤ 2 ^ 32;
      count : l.count ≡ group_count l.s;
    }
