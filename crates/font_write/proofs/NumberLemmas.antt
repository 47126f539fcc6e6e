-- Numbers as bytes.
use Rattle.std.proofs.Common.{◌≡◌, ℕ, zero, suc, ◌^◌, ◌<◌, get_or, refl, arith}
use Rattle.std.specs.Int.{to_be_bytes, w32}
use Rattle.std.proofs.lemmas.Nat.{be_bytes_4}
use Rattle.font_theory.specs.Bytes.{bytes32}

cells32 : (n : ℕ) → n < 2 ^ 32 → (i : ℕ) → get_or (bytes32 n) i 0 < 256
cells32 n lt zero = omega arith
cells32 n lt (suc zero) = omega arith
cells32 n lt (suc (suc zero)) = omega arith
cells32 n lt (suc (suc (suc zero))) = omega arith
cells32 n lt (suc (suc (suc (suc i)))) = omega arith

-- the bytes of a u32 are those of `to_be_bytes`
pub bytes32_is : (n : ℕ) → n < 2 ^ 32 → to_be_bytes w32 n ≡ bytes32 n
bytes32_is n lt = be_bytes_4 (bytes32 n) n refl (cells32 n lt) (omega arith)
