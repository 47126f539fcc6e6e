-- The lists of layers that are written (OpenType 1.9, COLR, Header; BaseGlyph and Layer records).
use Rattle.std.specs.Prelude.{ℕ, ◌+◌, ◌*◌, ◌/◌, ◌%◌, nat_eq, List, [], ◌∷◌, ◌++◌, length, flat_map, if◌then◌else◌}
use Rattle.std.specs.Prelude.{Option}
use Rattle.colour_tables.specs.ListedGlyphs.{listed}
use Rattle.colour_tables.specs.declared.layer.Layer.{Layer}

-- the bytes of numbers (OpenType 1.9, Data Types)
abbrev pub bytes_of_u16 : ℕ → List ℕ
bytes_of_u16 n = n / 256 ∷ n % 256 ∷ []

abbrev pub bytes_of_u24 : ℕ → List ℕ
bytes_of_u24 n = n / 65536 ∷ n / 256 % 256 ∷ n % 256 ∷ []

abbrev pub bytes_of_u32 : ℕ → List ℕ
bytes_of_u32 n = n / 16777216 ∷ n / 65536 % 256 ∷ n / 256 % 256 ∷ n % 256 ∷ []

-- the offset of a list: 0 where it is empty
abbrev pub offset_of : ℕ → ℕ → ℕ
offset_of count place = if nat_eq count 0 then 0 else place

-- Layer record: glyphID, paletteIndex
abbrev pub layer_bytes : Layer → List ℕ
layer_bytes l = bytes_of_u16 l.glyph ++ bytes_of_u16 l.palette_entry

-- the Layer records of glyphs, end to end
abbrev pub layer_rows : List (ℕ × List Layer) → List ℕ
layer_rows glyphs = flat_map (λ e. flat_map layer_bytes e.1) glyphs

-- the BaseGlyph records of glyphs: glyphID, firstLayerIndex, numLayers, where layers are numbered from one on
abbrev pub base_rows : ℕ → List (ℕ × List Layer) → List ℕ
base_rows first [] = []
base_rows first (e ∷ es) =
    bytes_of_u16 e.0 ++ bytes_of_u16 first ++ bytes_of_u16 (length e.1) ++ base_rows (first + length e.1) es

-- how many layers glyphs have
abbrev pub layer_total : List (ℕ × List Layer) → ℕ
layer_total [] = 0
layer_total (e ∷ es) = length e.1 + layer_total es

-- the header up to numLayerRecords, of a table whose BaseGlyph records stand at a place, and its Layer records
-- after them: version, numBaseGlyphRecords, baseGlyphRecordsOffset, layerRecordsOffset, numLayerRecords
abbrev pub layer_header : ℕ → ℕ → List (ℕ × List Layer) → List ℕ
layer_header version place glyphs =
    bytes_of_u16 version ++ bytes_of_u16 (length glyphs) ++ bytes_of_u32 (offset_of (length glyphs) place)
    ++ bytes_of_u32 (offset_of (layer_total glyphs) (place + 6 * length glyphs))
    ++ bytes_of_u16 (layer_total glyphs)

-- both lists
abbrev pub layer_lists : List (ℕ × List Layer) → List ℕ
layer_lists glyphs = base_rows 0 glyphs ++ layer_rows glyphs

-- the table of version 0 of the layers of n glyphs
unfoldable pub layer_table : ℕ → (ℕ → Option (List Layer)) → List ℕ
layer_table n layers = layer_header 0 14 (listed layers 0 n) ++ layer_lists (listed layers 0 n)
