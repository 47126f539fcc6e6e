use Rattle.std.proofs.Common.{arith}
use Rattle.font_map.proofs.LaidOutLemmas.{laid_segments}
use Rattle.font_map.proofs.laid_out.lay_segments.Goals as goal

pub returns-clause-map : goal.returns-clause-map
returns-clause-map c = laid_segments _ _ _ _ (omega arith) c.loop-code.invariant.done c.loop-code.invariant.rest
