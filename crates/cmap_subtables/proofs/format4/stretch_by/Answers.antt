use Rattle.std.proofs.Common.{arith, sym, ◌≤◌, ◌∙◌, ◌+◌}
use Rattle.codes.proofs.PieceLemmas.{holds_of, stretch_none, stretch_same}
use Rattle.cmap_subtables.proofs.SegmentLemmas.{segment_ends, segment_same, segments_none}
use Rattle.cmap_subtables.proofs.format4.stretch_by.Goals as goal

pub returns-in-Some-clause-order : goal.returns-in-Some-clause-order
returns-in-Some-clause-order c =
    omega (arith, holds_of (λ segment. c.args.from ≤ segment.last) _ c.in-Some.segment c.in-Some.is c.requires.ends)

pub returns-in-Some-clause-found : goal.returns-in-Some-clause-found
returns-in-Some-clause-found c =
    stretch_same _ _ _ _ _ _ (segment_same _ _ (c.from.result + 1) c.in-Some.segment (omega arith) (omega arith)
    (sym c.requires.value ∙ c.in-Some.is))
    (λ code x. segment_ends _ c.in-Some.segment (c.from.result + 1) code (omega arith) x) c.run_in_segment.ensures

pub returns-in-None-clause-found : goal.returns-in-None-clause-found
returns-in-None-clause-found c =
    stretch_none _ _ _ _ (λ code x y. segments_none _ _ (sym c.requires.value ∙ c.in-None.is) code x)
