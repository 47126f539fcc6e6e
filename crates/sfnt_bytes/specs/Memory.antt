-- When memory runs out, this project's own.
use Rattle.std.specs.Prelude.{ℕ, ◌≤◌}

-- room was refused for some number of bytes
abbrev pub IsRefused : (ℕ → Type 0) → Type 0
IsRefused refuses = (bytes : ℕ) × refuses bytes

-- room was refused for some number of bytes, which is no larger than this one
abbrev pub IsRefusedUpTo : (ℕ → Type 0) → ℕ → Type 0
IsRefusedUpTo refuses most = (bytes : ℕ) × refuses bytes × (bytes ≤ most)
