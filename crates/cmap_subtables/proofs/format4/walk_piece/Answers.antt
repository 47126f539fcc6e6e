use Rattle.std.proofs.Common.{arith}
use Rattle.cmap_subtables.proofs.SegmentLemmas.{none_from}
use Rattle.cmap_subtables.proofs.format4.walk_piece.Goals as goal

pub returns-clause-piece : goal.returns-clause-piece
returns-clause-piece c = none_from _ _ _ _ (omega arith) c.loop-at.invariant.none
