-- The subtable of variation sequences of a `cmap` (OpenType 1.9, cmap, Encoding records and encodings; Format 14:
-- Unicode variation sequences).
use Rattle.std.specs.Prelude.{ℕ, ◌+◌, ◌-◌, ◌*◌, nat_eq, nat_le, nat_lt, Bool, ◌&&◌, List, drop, find, length, take}
use Rattle.std.specs.Prelude.{if◌then◌else◌, Option, None, Some}
use Rattle.std.specs.List.{list_any, range_with_len}
use Rattle.std.specs.Option.{option_and_then}
use Rattle.sfnt_bytes.specs.Number.{u16_at, u32_at}
use Rattle.variation_sequences.specs.Strict.{is_strict}

-- numTables, and 0 where the header of `cmap` is cut off
unfoldable pub encoding_record_count : List ℕ → ℕ
encoding_record_count cmap = if nat_lt (length cmap) 4 then 0 else u16_at cmap 2

-- encoding record k is all there, and has platformID 0 and encodingID 5
unfoldable pub is_sequence_record : List ℕ → ℕ → Bool
is_sequence_record cmap k =
    nat_le (12 + 8 * k) (length cmap)
    && (nat_eq (u16_at cmap (4 + 8 * k)) 0 && nat_eq (u16_at cmap (6 + 8 * k)) 5)

-- another such record stands after record k
unfoldable pub has_later_record : List ℕ → ℕ → Bool
has_later_record cmap k =
    list_any (is_sequence_record cmap) (range_with_len (k + 1) (encoding_record_count cmap - (k + 1)))

-- the only such record
unfoldable pub sole_record : List ℕ → Option ℕ
sole_record cmap =
    option_and_then (λ k. if has_later_record cmap k then None else Some k)
    (find (is_sequence_record cmap) (range_with_len 0 (encoding_record_count cmap)))

-- the bytes of `cmap` from the subtable of record k on
unfoldable pub from_subtable : List ℕ → ℕ → List ℕ
from_subtable cmap k = drop (u32_at cmap (8 + 8 * k)) cmap

-- the format is 14, and the length that is stated is that of a header at least, and lies within the bytes
abbrev pub is_whole : List ℕ → Bool
is_whole b = nat_le 10 (length b) && nat_eq (u16_at b 0) 14 && nat_le 10 (u32_at b 2) && nat_le (u32_at b 2) (length b)

-- the subtable with which bytes begin, cut off at its length
unfoldable pub whole_subtable : List ℕ → Option (List ℕ)
whole_subtable b = if is_whole b then Some (take (u32_at b 2) b) else None

-- a subtable, if it is read
unfoldable pub if_strict : List ℕ → Option (List ℕ)
if_strict s = if is_strict s then Some s else None

-- the subtable of variation sequences, if there is only one and it is read
unfoldable pub subtable_of : List ℕ → Option (List ℕ)
subtable_of cmap =
    option_and_then if_strict (option_and_then (λ k. whole_subtable (from_subtable cmap k)) (sole_record cmap))
