use Rattle.std.proofs.Common.{arith}
use Rattle.codes.proofs.RunLemmas.{piece_last}
use Rattle.cmap_subtables.proofs.SegmentLemmas.{none_above}
use Rattle.cmap_subtables.proofs.format4.walk_run.Goals as goal

pub returns : goal.returns
returns c = piece_last _ _ _ c.loop-run.invariant.piece (none_above _ _ _ (omega arith))
