-- The fields of a subtable of variation sequences, whose bytes are given (OpenType 1.9, cmap, Format 14: Unicode
-- variation sequences).
use Rattle.std.specs.Prelude.{ℕ, ◌+◌, ◌*◌, nat_eq, List, [], ◌∷◌, drop, slice_index, if◌then◌else◌}
use Rattle.sfnt_bytes.specs.Number.{u16_at, u32_at}

-- the uint24 at a place (OpenType 1.9, Data Types)
unfoldable pub u24_at : List ℕ → ℕ → ℕ
u24_at bytes at =
    slice_index bytes at * 65536 + slice_index bytes (at + 1) * 256 + slice_index bytes (at + 2)

-- numVarSelectorRecords
unfoldable pub selector_count : List ℕ → ℕ
selector_count s = u32_at s 6

-- record k: varSelector
unfoldable pub selector_at : List ℕ → ℕ → ℕ
selector_at s k = u24_at s (10 + 11 * k)

-- the bytes from an offset on; a count of 0 where the offset is 0, which stands for no list
unfoldable pub list_at : List ℕ → ℕ → List ℕ
list_at s offset = if nat_eq offset 0 then 0 ∷ 0 ∷ 0 ∷ 0 ∷ [] else drop offset s

-- record k: what begins with its default table, by defaultUVSOffset
unfoldable pub default_ranges : List ℕ → ℕ → List ℕ
default_ranges s k = list_at s (u32_at s (13 + 11 * k))

-- record k: what begins with its non-default table, by nonDefaultUVSOffset
unfoldable pub mappings_of : List ℕ → ℕ → List ℕ
mappings_of s k = list_at s (u32_at s (17 + 11 * k))

-- numUnicodeValueRanges of a default table, numUVSMappings of a non-default one
unfoldable pub list_count : List ℕ → ℕ
list_count t = u32_at t 0

-- range i of a default table: startUnicodeValue
unfoldable pub range_first : List ℕ → ℕ → ℕ
range_first t i = u24_at t (4 + 4 * i)

-- additionalCount
unfoldable pub range_more : List ℕ → ℕ → ℕ
range_more t i = slice_index t (7 + 4 * i)

-- the last code of the range
abbrev pub range_last : List ℕ → ℕ → ℕ
range_last t i = range_first t i + range_more t i

-- mapping j of a non-default table: unicodeValue
unfoldable pub mapping_code : List ℕ → ℕ → ℕ
mapping_code u j = u24_at u (4 + 5 * j)

-- glyphID
unfoldable pub mapping_glyph : List ℕ → ℕ → ℕ
mapping_glyph u j = u16_at u (7 + 5 * j)
