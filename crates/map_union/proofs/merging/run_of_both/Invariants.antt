use Rattle.std.proofs.Common.{ℕ, ◌+◌, ◌-◌, ◌≤◌}
use Rattle.codes.specs.CharacterMap.{united}
use Rattle.codes.specs.Runs.{IsNext, IsPiece, spelled}
use Rattle.map_union.specs.Inside.{ArePast}
use Rattle.map_union.proofs.merging.run_of_both.Given as goal

abbrev pub invariant-loop-ahead : goal.invariant-loop-ahead
invariant-loop-ahead l = record {
  order : l.run.first ≤ l.run.last;
  small : l.run.last ≤ 0x10FFFF;
  piece : (from : ℕ) → IsPiece (united (spelled l.a) (spelled l.b)) from l.fn.piece
      → IsPiece (united (spelled l.a) (spelled l.b)) from l.run;
  next : IsNext (united (spelled l.a) (spelled l.b)) (l.run.last + 1) l.ahead;
  past : ArePast l.a l.b (l.run.last + 1) l.at.first l.at.second;
}

abbrev pub decreases-loop-ahead : goal.decreases-loop-ahead
decreases-loop-ahead l = 0x110000 - l.run.last
