use Rattle.std.proofs.Common.{arith}
use Rattle.cmap_subtables.proofs.GroupLemmas.{groups_end, walk_hit, walk_past}
use Rattle.cmap_subtables.proofs.format12.walk_reach.Goals as goal

pub returns-then-from-group-clause-found : goal.returns-then-from-group-clause-found
returns-then-from-group-clause-found c = (
  omega arith,
  walk_hit _ _ _ _ _ _ c.group_at-group.ensures.next c.loop-i.invariant.left (omega arith) (omega arith)
      (omega (arith, c.loop-i.invariant.order)),
)

pub returns-clause-found : goal.returns-clause-found
returns-clause-found c = walk_past _ _ _ _ (groups_end _ _ (omega (arith, c.loop-i.invariant.count)))
    c.loop-i.invariant.left
