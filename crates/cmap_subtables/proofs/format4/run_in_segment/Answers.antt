use Rattle.cmap_subtables.proofs.SegmentLemmas.{clip_by_delta}
use Rattle.cmap_subtables.proofs.format4.run_in_segment.Goals as goal

pub returns-then-segment-eq0 : goal.returns-then-segment-eq0
returns-then-segment-eq0 c = clip_by_delta _ _ _ _ _ c.if-segment-eq0.true c.run_by_delta.ensures
