use Rattle.std.proofs.Common.{◌-◌}
use Rattle.codes.proofs.CountLemmas.{Counted}
use Rattle.codes.proofs.runs.mapped_count.Given as goal

abbrev pub invariant-loop-piece : goal.invariant-loop-piece
invariant-loop-piece g l = Counted (g.P.Pieces.map_of l.pieces) l.count l.from 0x110000

abbrev pub decreases-loop-piece : goal.decreases-loop-piece
decreases-loop-piece g l = 0x110000 - l.from
