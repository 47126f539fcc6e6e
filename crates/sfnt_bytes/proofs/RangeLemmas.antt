-- How a range of indices goes on, and where it ends.
use Rattle.std.proofs.Common.{◌≡◌, ℕ, suc, ◌+◌, ◌-◌, ◌<◌, ◌≤◌, ◌∷◌, ap, arith}
use Rattle.std.specs.List.{range_with_len}

pub range_with_len-step : (i n : ℕ) → i < n → range_with_len i (n - i) ≡ i ∷ range_with_len (i + 1) (n - (i + 1))
range_with_len-step i n h = let e : n - i ≡ suc (n - (i + 1)) = omega arith in ap (range_with_len i) e

pub range_with_len-end : (i n : ℕ) → n ≤ i → range_with_len i (n - i) ≡ range_with_len i 0
range_with_len-end i n h = let e : n - i ≡ 0 = omega arith in ap (range_with_len i) e
