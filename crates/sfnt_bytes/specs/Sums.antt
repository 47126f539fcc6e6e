-- Sums of words (OpenType 1.9, Organization of an OpenType Font, Calculating Checksums).
use Rattle.std.specs.Prelude.{◌≡◌, ℕ, ◌+◌, ◌-◌, ◌%◌, ◌^◌, List, [], ◌∷◌, ◌++◌, drop, length, replicate, sum, take}
use Rattle.sfnt_bytes.specs.Number.{number}

-- the big-endian u32 words of the bytes, the last one filled with zeros
unfoldable pub words : List ℕ → List ℕ
words [] = []
words (a ∷ []) = number a 0 0 0 ∷ []
words (a ∷ b ∷ []) = number a b 0 0 ∷ []
words (a ∷ b ∷ c ∷ []) = number a b c 0 ∷ []
words (a ∷ b ∷ c ∷ d ∷ rest) = number a b c d ∷ words rest

-- their sum modulo 2^32, the checksum of a table
unfoldable pub checksum_of : List ℕ → ℕ
checksum_of bytes = sum (words bytes) % 2 ^ 32

-- the bytes with the four at a place as zeros
unfoldable pub without_field : List ℕ → ℕ → List ℕ
without_field bytes at = take at bytes ++ (replicate 4 0 ++ drop (at + 4) bytes)

-- checksumAdjustment, for what a file sums to with that field as 0
abbrev pub adjustment_of : ℕ → ℕ
adjustment_of sum = (2 ^ 32 + 0xB1B0AFBA - sum) % 2 ^ 32

-- the checksum of whole words and of what follows them is the sum of both checksums
abbrev pub SumOfParts : Type 0
SumOfParts =
    (front back : List ℕ) → length front % 4 ≡ 0 →
    checksum_of (front ++ back) ≡ (checksum_of front + checksum_of back) % 2 ^ 32
