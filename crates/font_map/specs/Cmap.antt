-- Encoding records, and the subtable that is chosen (OpenType 1.9, cmap, Encoding records and encodings).
use Rattle.std.specs.Prelude.{ℕ, ◌+◌, ◌*◌, ◌%◌, nat_lt, nat_le, nat_eq, Bool, ◌&&◌, ◌||◌, List, [], ◌∷◌, length, drop}
use Rattle.std.specs.Prelude.{find, if◌then◌else◌, Option}
use Rattle.std.specs.List.{range_with_len}
use Rattle.std.specs.Option.{option_map_or}
use Rattle.sfnt_bytes.specs.Number.{u16_at, u32_at}
use Rattle.sfnt_bytes.specs.Lines.{first_of_lines}
use Rattle.cmap_subtables.specs.Format4.{segment_count}
use Rattle.cmap_subtables.specs.Format12.{group_count}

-- numTables, and 0 where the header of `cmap` is cut off
unfoldable pub encoding_count : List ℕ → ℕ
encoding_count cmap = if nat_lt (length cmap) 4 then 0 else u16_at cmap 2

-- the bytes of `cmap` from the subtable of record k on
unfoldable pub subtable_at : List ℕ → ℕ → List ℕ
subtable_at cmap k = drop (u32_at cmap (8 + 8 * k)) cmap

-- record k is all there, has this platformID and encodingID, and two bytes at its offset say format 4 or 12
unfoldable pub is_candidate : List ℕ → ℕ → ℕ → ℕ → Bool
is_candidate cmap platform encoding k = let s = subtable_at cmap k in
    nat_le (12 + 8 * k) (length cmap)
    && (nat_eq (u16_at cmap (4 + 8 * k)) platform && nat_eq (u16_at cmap (6 + 8 * k)) encoding)
    && (nat_le 2 (length s) && (nat_eq (u16_at s 0) 4 || nat_eq (u16_at s 0) 12))

-- the first listed candidate of a platform and an encoding
unfoldable pub candidate_of : List ℕ → ℕ → ℕ → Option ℕ
candidate_of cmap platform encoding =
    find (is_candidate cmap platform encoding) (range_with_len 0 (encoding_count cmap))

-- the first candidate in the order 3/10, 0/4, 3/1, 0/3
unfoldable pub chosen_record : List ℕ → Option ℕ
chosen_record cmap =
    first_of_lines
    (candidate_of cmap 3 10 ∷ candidate_of cmap 0 4 ∷ candidate_of cmap 3 1 ∷ candidate_of cmap 0 3 ∷ [])

-- platformID, encodingID and format of the chosen record
unfoldable pub chosen_of : List ℕ → ℕ × ℕ × ℕ
chosen_of cmap =
    option_map_or (λ k. (u16_at cmap (4 + 8 * k), u16_at cmap (6 + 8 * k), u16_at (subtable_at cmap k) 0))
    (chosen_record cmap) (0, 0, 0)

-- a subtable has fewer than 16 bytes, an odd segCountX2, or segments or groups that do not all lie within
-- `cmap`
unfoldable pub is_malformed : List ℕ → Bool
is_malformed s =
    nat_lt (length s) 16
    || (if nat_eq (u16_at s 0) 4
    then nat_eq (u16_at s 6 % 2) 1 || nat_lt (length s) (16 + 8 * segment_count s)
    else nat_lt (length s) (16 + 12 * group_count s))
