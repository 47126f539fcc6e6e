use Rattle.std.proofs.Common.{◌≡◌, ◌<◌, ℕ, false, get_or}
use Rattle.divided_tables.proofs.metrics.is_zero.Given as goal

abbrev pub invariant-loop-i : goal.invariant-loop-i
invariant-loop-i l = l.any ≡ false → (k : ℕ) → k < l.i → get_or l.bytes k 0 ≡ 0
