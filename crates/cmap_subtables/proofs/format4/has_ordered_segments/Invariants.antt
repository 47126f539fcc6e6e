use Rattle.std.proofs.Common.{◌≡◌, ◌≤◌, ◌^◌, drop}
use Rattle.codes.specs.Order.{AreInOrder}
use Rattle.cmap_subtables.specs.Format4.{HasOrderedSegments, segment_count, segments_of}
use Rattle.cmap_subtables.proofs.format4.has_ordered_segments.Given as goal

abbrev pub invariant-loop-i : goal.invariant-loop-i
invariant-loop-i l =
    record {
      into : AreInOrder (λ g. g.first) (λ g. g.last) l.low (drop l.i (segments_of l.s)) → HasOrderedSegments l.s;
      out : HasOrderedSegments l.s → AreInOrder (λ g. g.first) (λ g. g.last) l.low (drop l.i (segments_of l.s));
      small : l.low ≤ 2 ^ 16;
      count : l.count ≡ segment_count l.s;
    }
