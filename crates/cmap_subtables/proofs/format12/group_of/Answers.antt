use Rattle.std.proofs.Common.{arith, sym}
use Rattle.cmap_subtables.proofs.GroupLemmas.{none_below, none_past, some_at}
use Rattle.cmap_subtables.proofs.format12.group_of.Goals as goal

pub returns-then-i-count_groups-clause-value : goal.returns-then-i-count_groups-clause-value
returns-then-i-count_groups-clause-value c = sym (none_past _ _ _ _ c.requires.place (omega arith) (omega arith))

pub returns-then-code-group-clause-value : goal.returns-then-code-group-clause-value
returns-then-code-group-clause-value c = none_below _ _ _ _ c.requires.order c.requires.place (omega arith)
    c.group_at-group.ensures.value c.if-code-group.true

pub returns-clause-value : goal.returns-clause-value
returns-clause-value c = some_at _ _ _ _ c.requires.place (omega arith) c.group_at-group.ensures.value
    (omega (arith, c.if-code-group.false))
