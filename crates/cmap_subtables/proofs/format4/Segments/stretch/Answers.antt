use Rattle.std.proofs.Common.{arith}
use Rattle.cmap_subtables.proofs.SegmentLemmas.{none_above}
use Rattle.cmap_subtables.proofs.format4.Segments.stretch.Goals as goal

pub returns-then-from-gt65535-clause-found : goal.returns-then-from-gt65535-clause-found
returns-then-from-gt65535-clause-found c = λ code x y. none_above _ _ _ (omega arith) code x
