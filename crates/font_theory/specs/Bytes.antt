-- Numbers as bytes, padding, and the two fields of `head` that a cut writes (OpenType 1.9, Data Types; head).
use Rattle.std.specs.Prelude.{ℕ, ◌/◌, ◌%◌, List, [], ◌∷◌, ◌++◌, drop, length, replicate, take}
use Rattle.sfnt_bytes.specs.Findings.{padding_of}

-- the two bytes of a u16
abbrev pub bytes16 : ℕ → List ℕ
bytes16 n = n / 256 ∷ n % 256 ∷ []

-- the four bytes of a u32
abbrev pub bytes32 : ℕ → List ℕ
bytes32 n = bytes16 (n / 65536) ++ bytes16 (n % 65536)

-- b with the fewest zeros to a multiple of 4
unfoldable pub padded : List ℕ → List ℕ
padded b = b ++ replicate (padding_of (length b)) 0

-- `head` with a checksumAdjustment
unfoldable pub with_adjustment : ℕ → List ℕ → List ℕ
with_adjustment adjustment head = take 8 head ++ (bytes32 adjustment ++ drop 12 head)

-- `head` as a cut has it, before its file is summed: checksumAdjustment 0, indexToLocFormat 1, and all else
-- as it was
unfoldable pub cut_head : List ℕ → List ℕ
cut_head head = take 8 head ++ (bytes32 0 ++ (take 38 (drop 12 head) ++ (bytes16 1 ++ drop 52 head)))
