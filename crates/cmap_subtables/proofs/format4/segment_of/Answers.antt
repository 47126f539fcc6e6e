use Rattle.std.proofs.Common.{arith, subst, sym, ◌≤◌}
use Rattle.cmap_subtables.specs.declared.format4.Segment.{Segment}
use Rattle.cmap_subtables.proofs.SegmentLemmas.{none_past, some_at}
use Rattle.cmap_subtables.proofs.format4.segment_of.Goals as goal

pub returns-then-place-count_segments-clause-value : goal.returns-then-place-count_segments-clause-value
returns-then-place-count_segments-clause-value c = none_past _ _ _ c.requires.place (omega arith)

pub returns-clause-value : goal.returns-clause-value
returns-clause-value c = some_at _ _ _ _ c.requires.place (omega arith) c.segment_at.ensures.value

pub returns-clause-ends : goal.returns-clause-ends
returns-clause-ends c = subst (λ (g : Segment). c.args.code ≤ g.last) (sym c.segment_at.ensures.value)
    (c.requires.place.here (omega arith))
