-- The fields that are read of `head`, `maxp` and `hhea` (OpenType 1.9, the chapters of these names).
use Rattle.std.specs.Prelude.{ℕ, ℤ, nat_eq, List, if◌then◌else◌}
use Rattle.std.specs.Int.{cast_signed, w16}
use Rattle.sfnt_bytes.specs.Number.{u16_at, u32_at}
use Rattle.font_tables.specs.Tables.{head_of, hhea_of, maxp_of}
use Rattle.font_tables.specs.declared.loca.LocaForm.{LocaForm}
use Rattle.font_tables.specs.declared.loca.LocaForm.TheVariants.{Short, Long}

-- the i16 at a place, in two's complement
unfoldable pub i16_at : List ℕ → ℕ → ℤ
i16_at bytes at = cast_signed w16 (u16_at bytes at)

-- `head`: magicNumber
unfoldable pub magic_number : List ℕ → ℕ
magic_number head = u32_at head 12

-- `head`: unitsPerEm
unfoldable pub units_per_em : List ℕ → ℕ
units_per_em head = u16_at head 18

-- `head`: xMin
abbrev pub x_min : List ℕ → ℤ
x_min head = i16_at head 36

-- `head`: yMin
abbrev pub y_min : List ℕ → ℤ
y_min head = i16_at head 38

-- `head`: xMax
abbrev pub x_max : List ℕ → ℤ
x_max head = i16_at head 40

-- `head`: yMax
abbrev pub y_max : List ℕ → ℤ
y_max head = i16_at head 42

-- `head`: indexToLocFormat. As an i16 it is 0 or 1 where the u16 is
unfoldable pub index_to_loc_format : List ℕ → ℕ
index_to_loc_format head = u16_at head 50

-- the form of offsets that it says
abbrev pub form_of_format : ℕ → LocaForm
form_of_format format = if nat_eq format 0 then Short else Long

-- `maxp`: version
unfoldable pub maxp_version : List ℕ → ℕ
maxp_version maxp = u32_at maxp 0

-- `maxp`: numGlyphs
unfoldable pub num_glyphs : List ℕ → ℕ
num_glyphs maxp = u16_at maxp 4

-- `hhea`: ascender
abbrev pub ascender : List ℕ → ℤ
ascender hhea = i16_at hhea 4

-- `hhea`: descender
abbrev pub descender : List ℕ → ℤ
descender hhea = i16_at hhea 6

-- `hhea`: numberOfHMetrics
unfoldable pub number_of_h_metrics : List ℕ → ℕ
number_of_h_metrics hhea = u16_at hhea 34

-- the fields of a file that is opened
unfoldable pub units_per_em_of : List ℕ → ℕ
units_per_em_of file = units_per_em (head_of file)

unfoldable pub loca_form_of : List ℕ → LocaForm
loca_form_of file = form_of_format (index_to_loc_format (head_of file))

unfoldable pub glyph_count_of : List ℕ → ℕ
glyph_count_of file = num_glyphs (maxp_of file)

unfoldable pub metric_count_of : List ℕ → ℕ
metric_count_of file = number_of_h_metrics (hhea_of file)
