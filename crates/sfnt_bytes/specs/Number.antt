-- Big-endian numbers in a list of bytes; a byte past the end counts as 0 (OpenType 1.9, Data Types).
use Rattle.std.specs.Prelude.{ℕ, ◌+◌, ◌*◌, List, slice_index}

-- the number of four bytes
abbrev pub number : ℕ → ℕ → ℕ → ℕ → ℕ
number a b c d = a * 16777216 + b * 65536 + c * 256 + d

-- the u16 at a place
unfoldable pub u16_at : List ℕ → ℕ → ℕ
u16_at bytes at = slice_index bytes at * 256 + slice_index bytes (at + 1)

-- the u32 at a place
unfoldable pub u32_at : List ℕ → ℕ → ℕ
u32_at bytes at =
    number (slice_index bytes at) (slice_index bytes (at + 1)) (slice_index bytes (at + 2))
    (slice_index bytes (at + 3))
