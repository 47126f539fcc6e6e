-- A `gvar` that is made anew (OpenType 1.9, gvar: Glyph Variations Table): long offsets, and data end to end.
use Rattle.std.specs.Prelude.{◌≡◌, ℕ, ◌+◌, ◌*◌, ◌/◌, ◌%◌, ◌^◌, ◌<◌, ◌≤◌, List, [], ◌∷◌, ◌++◌, length, map, Option}
use Rattle.std.specs.List.{concat, flat_map, range_with_len}
use Rattle.font_variations.specs.Gvar.{axis_count, fvar_axis_count, gvar_version, present, shared_tuples_length}

-- the two bytes of a u16
abbrev pub u16_bytes : ℕ → List ℕ
u16_bytes n = n / 256 ∷ n % 256 ∷ []

-- the four bytes of a u32
abbrev pub u32_bytes : ℕ → List ℕ
u32_bytes n = u16_bytes (n / 65536) ++ u16_bytes (n % 65536)

-- the data of n glyphs, in order
abbrev pub listed_data : (ℕ → List ℕ) → ℕ → List (List ℕ)
listed_data of_glyph n = map of_glyph (range_with_len 0 n)

-- the offsets of data that stand end to end, the first at a given offset, and that of their end
abbrev pub offsets_after : ℕ → List (List ℕ) → List ℕ
offsets_after at [] = at ∷ []
offsets_after at (bytes ∷ others) = at ∷ offsets_after (at + length bytes) others

-- where the offsets end, and the shared tuples begin
abbrev pub tuples_at : ℕ → ℕ
tuples_at n = 20 + 4 * (n + 1)

-- where the data begin
abbrev pub data_at : List ℕ → ℕ → ℕ
data_at shared n = tuples_at n + length shared

-- the offsets
unfoldable pub offset_bytes : List (List ℕ) → List ℕ
offset_bytes listed = flat_map u32_bytes (offsets_after 0 listed)

-- the table: version, axisCount and sharedTupleCount as they are given; sharedTuplesOffset; glyphCount; flags;
-- glyphVariationDataArrayOffset; the offsets; the shared tuples; the data
unfoldable pub gvar_bytes : List ℕ → List ℕ → (ℕ → List ℕ) → ℕ → List ℕ
gvar_bytes front shared of_glyph n =
    front ++ (u32_bytes (tuples_at n) ++ (u16_bytes n ++ (u16_bytes 1 ++ (u32_bytes (data_at shared n)
    ++ (offset_bytes (listed_data of_glyph n) ++ (shared ++ concat (listed_data of_glyph n)))))))

-- its first 8 bytes, and shared tuples of the length that these state
pub record IsForGvar (front shared : List ℕ) : Type 0 where
  pub size : length front ≡ 8
  pub version : gvar_version front ≡ 0x00010000
  pub tuples : length shared ≡ shared_tuples_length front

-- axisCount is that of `fvar`
pub record HasAxes (front : List ℕ) (fvar : Option (List ℕ)) : Type 0 where
  pub whole : 10 ≤ length (present fvar)
  pub same : axis_count front ≡ fvar_axis_count (present fvar)

-- numbers that fit into their fields
pub record FitsGvar (shared : List ℕ) (of_glyph : ℕ → List ℕ) (n : ℕ) : Type 0 where
  pub glyphs : n < 2 ^ 16
  pub place : data_at shared n < 2 ^ 32
  pub size : length (concat (listed_data of_glyph n)) < 2 ^ 32
