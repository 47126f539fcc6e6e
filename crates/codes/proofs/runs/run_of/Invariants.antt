use Rattle.std.proofs.Common.{ℕ, ◌-◌, ◌≤◌}
use Rattle.codes.specs.Runs.{IsPiece}
use Rattle.codes.proofs.runs.run_of.Given as goal

abbrev pub invariant-loop-next : goal.invariant-loop-next
invariant-loop-next g l =
    record {
      order : l.run.first ≤ l.run.last;
      small : l.run.last ≤ 0x10FFFF;
      piece : (from : ℕ) → IsPiece (g.P.Pieces.map_of l.pieces) from l.fn.piece
          → IsPiece (g.P.Pieces.map_of l.pieces) from l.run;
    }

abbrev pub decreases-loop-next : goal.decreases-loop-next
decreases-loop-next g l = 0x110000 - l.run.last
