-- Room that was refused, and bounds of it.
use Rattle.std.proofs.Common.{ℕ, ◌≤◌, Result, Ok, Err, OnErr, arith}
use Rattle.sfnt_bytes.specs.Memory.{IsRefused, IsRefusedUpTo}

pub refused_within : (refuses : ℕ → Type 0) (bytes most : ℕ) → refuses bytes → bytes ≤ most → IsRefusedUpTo refuses most
refused_within refuses bytes most refused small = (bytes, refused, small)

-- an error that a `?` passes on
pub refused_on : {T E : Type 0} (r : Result T E) (P : Type 0) → P → OnErr r P
refused_on (Ok x) P refused = tt
refused_on (Err e) P refused = refused

-- a larger bound
pub refused_more : (refuses : ℕ → Type 0) (few most : ℕ) → IsRefusedUpTo refuses few → few ≤ most
    → IsRefusedUpTo refuses most
refused_more refuses few most refused more = (refused.0, refused.1, omega (arith, refused.2))

-- no bound
pub refused_any : (refuses : ℕ → Type 0) (most : ℕ) → IsRefusedUpTo refuses most → IsRefused refuses
refused_any refuses most refused = (refused.0, refused.1)
