-- Sums of words up to many places, from which those of tables follow (OpenType 1.9, Calculating Checksums).
use Rattle.std.specs.Prelude.{◌≡◌, ℕ, ◌*◌, ◌%◌, ◌<◌, ◌≤◌, List, drop, length, slice_index, take}
use Rattle.sfnt_bytes.specs.Sums.{checksum_of}

-- number k is the sum of the bytes up to k times 65,536
pub record ArePrefixes (bytes sums : List ℕ) : Type 0 where
  pub count : length sums ≡ 512
  pub each : (k : ℕ) → k < 512 → slice_index sums k ≡ checksum_of (take (k * 262144) bytes)

-- the bytes of a file from each of its first four places on
pub record ArePlaces (at_0 at_1 at_2 at_3 : List ℕ) : Type 0 where
  pub one : at_1 ≡ drop 1 at_0
  pub two : at_2 ≡ drop 2 at_0
  pub three : at_3 ≡ drop 3 at_0

-- the sum of the bytes before a place that is a multiple of 4
pub record IsPrefixSum (bytes : List ℕ) (end total : ℕ) : Type 0 where
  pub aligned : end % 4 ≡ 0
  pub within : end ≤ length bytes
  pub sum : total ≡ checksum_of (take end bytes)
