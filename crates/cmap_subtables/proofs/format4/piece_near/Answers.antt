use Rattle.std.proofs.Common.{arith}
use Rattle.cmap_subtables.proofs.SegmentLemmas.{none_from}
use Rattle.cmap_subtables.proofs.format4.piece_near.Goals as goal

pub returns : goal.returns
returns c = none_from _ _ _ _ (omega arith) c.loop-at.invariant.none
