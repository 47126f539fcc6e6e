-- The layers of glyphs (OpenType 1.9, COLR, Header; BaseGlyph and Layer records).
use Rattle.std.specs.Prelude.{ℕ, zero, suc, ◌+◌, ◌*◌, nat_eq, nat_le, nat_lt, not, Bool, true, ◌&&◌, ◌||◌, List, []}
use Rattle.std.specs.Prelude.{◌∷◌}
use Rattle.std.specs.Prelude.{drop, find, length, Option}
use Rattle.std.specs.List.{list_all}
use Rattle.std.specs.Option.{option_map, option_map_or}
use Rattle.sfnt_bytes.specs.Number.{u16_at, u32_at}
use Rattle.colour_tables.specs.ListedGlyphs.{each_below, sum_below}
use Rattle.colour_tables.specs.declared.layer.Base.{Base}
use Rattle.colour_tables.specs.declared.layer.Layer.{Layer}

-- numBaseGlyphRecords
unfoldable pub base_count : List ℕ → ℕ
base_count t = u16_at t 2

-- baseGlyphRecordsOffset
unfoldable pub bases_offset : List ℕ → ℕ
bases_offset t = u32_at t 4

-- layerRecordsOffset
unfoldable pub layers_offset : List ℕ → ℕ
layers_offset t = u32_at t 8

-- numLayerRecords
unfoldable pub layer_count : List ℕ → ℕ
layer_count t = u16_at t 12

-- so many records of a size lie within a table from an offset on, which is not 0 unless there are none
abbrev pub has_records : List ℕ → ℕ → ℕ → ℕ → Bool
has_records t offset count size =
    nat_eq count 0 || (not (nat_eq offset 0) && nat_le (offset + size * count) (length t))

-- so many BaseGlyph records, with which bytes begin: glyphID, firstLayerIndex, numLayers
abbrev pub bases_in : ℕ → List ℕ → List Base
bases_in zero b = []
bases_in (suc k) b =
    record { glyph = u16_at b 0; first = u16_at b 2; count = u16_at b 4 } ∷ bases_in k (drop 6 b)

-- so many Layer records, with which bytes begin: glyphID, paletteIndex
abbrev pub layers_in : ℕ → List ℕ → List Layer
layers_in zero b = []
layers_in (suc k) b = record { glyph = u16_at b 0; palette_entry = u16_at b 2 } ∷ layers_in k (drop 4 b)

-- the base glyphs of a table
unfoldable pub bases_of : List ℕ → List Base
bases_of t = bases_in (base_count t) (drop (bases_offset t) t)

-- the layers of a base glyph
unfoldable pub layers_of : List ℕ → Base → List Layer
layers_of t b = layers_in b.count (drop (layers_offset t + 4 * b.first) t)

-- the layers of a glyph, if it is a base glyph
unfoldable pub layers_at : List ℕ → ℕ → Option (List Layer)
layers_at t g = option_map (layers_of t) (find (λ b. nat_eq b.glyph g) (bases_of t))

-- base glyphs ascend from one on, each is below n, and has its layers among so many
abbrev pub are_bases : ℕ → ℕ → ℕ → List Base → Bool
are_bases n layers from [] = true
are_bases n layers from (b ∷ bs) =
    nat_le from b.glyph && nat_lt b.glyph n && nat_le (b.first + b.count) layers
    && are_bases n layers (b.glyph + 1) bs

-- the lists of a table lie within it, and its base glyphs are in order
unfoldable pub has_layer_lists : ℕ → List ℕ → Bool
has_layer_lists n t =
    has_records t (bases_offset t) (base_count t) 6 && has_records t (layers_offset t) (layer_count t) 4
    && are_bases n (layer_count t) 0 (bases_of t)

-- layers are of glyphs below n
abbrev pub are_layers : ℕ → Option (List Layer) → Bool
are_layers n layers = option_map_or (list_all (λ layer. nat_lt layer.glyph n)) layers true

-- how many layers there are
abbrev pub depth : Option (List Layer) → ℕ
depth layers = option_map_or length layers 0

-- how many layers a table has at most, for numLayerRecords is a uint16
unfoldable pub MAX_LAYERS : ℕ
MAX_LAYERS = 65535

-- the layers of n glyphs are of glyphs, and have room in a table
unfoldable pub layers_have_room : ℕ → (ℕ → Option (List Layer)) → Bool
layers_have_room n layers =
    each_below (λ g. are_layers n (layers g)) n && nat_le (sum_below (λ g. depth (layers g)) n) MAX_LAYERS

-- a table of version 0 among n glyphs: it is there up to numLayerRecords, its lists are, and the layers have room
unfoldable pub is_layer_table : ℕ → List ℕ → Bool
is_layer_table n t =
    nat_le 14 (length t) && nat_eq (u16_at t 0) 0 && has_layer_lists n t && layers_have_room n (layers_at t)
