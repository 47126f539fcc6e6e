-- The fields of `gvar` (OpenType 1.9, gvar: Glyph Variations Table), and what is refused of it, this project's own.
use Rattle.std.specs.Prelude.{◌≡◌, ℕ, ◌+◌, ◌*◌, nat_eq, nat_lt, not, Bool, false, ◌&&◌, ◌||◌, List, [], drop, length}
use Rattle.std.specs.Prelude.{take, Option, unwrap_or}
use Rattle.std.specs.List.{list_any, range_with_len}
use Rattle.sfnt_bytes.specs.Number.{u16_at, u32_at}
use Rattle.font_tables.specs.Fields.{form_of_format}
use Rattle.font_tables.specs.Outlines.{offset_at, offset_size, outline_in}
use Rattle.font_tables.specs.declared.loca.LocaForm.{LocaForm}

-- majorVersion and minorVersion, as one number
unfoldable pub gvar_version : List ℕ → ℕ
gvar_version gvar = u32_at gvar 0

-- axisCount
unfoldable pub axis_count : List ℕ → ℕ
axis_count gvar = u16_at gvar 4

-- sharedTupleCount
unfoldable pub shared_tuple_count : List ℕ → ℕ
shared_tuple_count gvar = u16_at gvar 6

-- sharedTuplesOffset
unfoldable pub shared_tuples_offset : List ℕ → ℕ
shared_tuples_offset gvar = u32_at gvar 8

-- glyphCount
unfoldable pub gvar_glyph_count : List ℕ → ℕ
gvar_glyph_count gvar = u16_at gvar 12

-- flags
unfoldable pub flags : List ℕ → ℕ
flags gvar = u16_at gvar 14

-- glyphVariationDataArrayOffset
unfoldable pub data_array_offset : List ℕ → ℕ
data_array_offset gvar = u32_at gvar 16

-- `fvar`: axisCount
unfoldable pub fvar_axis_count : List ℕ → ℕ
fvar_axis_count fvar = u16_at fvar 8

-- the form of the offsets: that of `loca`, by the flags
abbrev pub offset_form : List ℕ → LocaForm
offset_form gvar = form_of_format (flags gvar)

-- what begins with the offsets
abbrev pub from_offsets : List ℕ → List ℕ
from_offsets gvar = drop 20 gvar

-- what begins with the data of glyphs
abbrev pub from_data : List ℕ → List ℕ
from_data gvar = drop (data_array_offset gvar) gvar

-- offset j, in bytes from the start of the data
abbrev pub data_offset : List ℕ → ℕ → ℕ
data_offset gvar j = offset_at (offset_form gvar) (from_offsets gvar) j

-- where the offsets end: there is one more than there are glyphs
abbrev pub end_of_offsets : List ℕ → ℕ → ℕ
end_of_offsets gvar glyphs = 20 + offset_size (offset_form gvar) * (glyphs + 1)

-- how many bytes the shared tuples have: each has a number of two bytes for each axis
abbrev pub shared_tuples_length : List ℕ → ℕ
shared_tuples_length gvar = 2 * axis_count gvar * shared_tuple_count gvar

-- version, axisCount and sharedTupleCount
unfoldable pub front_of : List ℕ → List ℕ
front_of gvar = take 8 gvar

-- the shared tuples: where there are none, their offset is not read
unfoldable pub shared_tuples_of : List ℕ → List ℕ
shared_tuples_of gvar = take (shared_tuples_length gvar) (drop (shared_tuples_offset gvar) gvar)

-- the GlyphVariationData of a glyph: the bytes between its offset and the next one
unfoldable pub data_of : List ℕ → ℕ → List ℕ
data_of gvar g = outline_in (offset_form gvar) (from_offsets gvar) (from_data gvar) g

-- a table that may be missing, which counts as empty then
abbrev pub present : Option (List ℕ) → List ℕ
present table = unwrap_or table []

-- fewer than 20 bytes, and so no whole header
abbrev pub lacks_header : List ℕ → Bool
lacks_header gvar = nat_lt (length gvar) 20

-- a version that is not 1.0
abbrev pub has_other_version : List ℕ → Bool
has_other_version gvar = not (nat_eq (gvar_version gvar) 0x00010000)

-- no `fvar`, or one of fewer than 10 bytes
abbrev pub lacks_axes : Option (List ℕ) → Bool
lacks_axes fvar = nat_lt (length (present fvar)) 10

-- axisCount is not that of `fvar`
abbrev pub has_other_axes : List ℕ → Option (List ℕ) → Bool
has_other_axes gvar fvar = not (nat_eq (axis_count gvar) (fvar_axis_count (present fvar)))

-- glyphCount is not that of the font
abbrev pub has_other_glyphs : List ℕ → ℕ → Bool
has_other_glyphs gvar glyphs = not (nat_eq (gvar_glyph_count gvar) glyphs)

-- flags other than 0 and 1
abbrev pub has_unknown_flags : List ℕ → Bool
has_unknown_flags gvar = nat_lt 1 (flags gvar)

-- the offsets do not lie within the table
abbrev pub lacks_offsets : List ℕ → ℕ → Bool
lacks_offsets gvar glyphs = nat_lt (length gvar) (end_of_offsets gvar glyphs)

-- there are shared tuples, and they begin before a place or do not lie within the table
unfoldable pub has_bad_tuples : List ℕ → ℕ → Bool
has_bad_tuples gvar end =
    not (nat_eq (shared_tuple_count gvar) 0)
    && (nat_lt (shared_tuples_offset gvar) end
    || nat_lt (length gvar) (shared_tuples_offset gvar + shared_tuples_length gvar))

-- the same, where the offsets end for a number of glyphs
abbrev pub has_bad_shared_tuples : List ℕ → ℕ → Bool
has_bad_shared_tuples gvar glyphs = has_bad_tuples gvar (end_of_offsets gvar glyphs)

-- an offset is above the next one
abbrev pub has_falling_offset : List ℕ → ℕ → Bool
has_falling_offset gvar glyphs =
    list_any (λ j. nat_lt (data_offset gvar (j + 1)) (data_offset gvar j)) (range_with_len 0 glyphs)

-- the last offset leads past the end of the table. Where none falls, it is the largest
abbrev pub leads_past_end : List ℕ → ℕ → Bool
leads_past_end gvar glyphs = nat_lt (length gvar) (data_array_offset gvar + data_offset gvar glyphs)

-- the table is refused, beside the `fvar` of a font with a number of glyphs
unfoldable pub is_bad_variations : List ℕ → Option (List ℕ) → ℕ → Bool
is_bad_variations gvar fvar glyphs =
    lacks_header gvar || has_other_version gvar || lacks_axes fvar || has_other_axes gvar fvar
    || has_other_glyphs gvar glyphs || has_unknown_flags gvar || lacks_offsets gvar glyphs
    || has_bad_shared_tuples gvar glyphs || has_falling_offset gvar glyphs || leads_past_end gvar glyphs

-- the table is not refused, beside some `fvar`
pub record IsAccepted (gvar : List ℕ) (glyphs : ℕ) : Type 0 where
  pub fvar : Option (List ℕ)
  pub accepted : is_bad_variations gvar fvar glyphs ≡ false
