-- Words of private contracts and of proofs: no public clause names them.
use Rattle.std.specs.Prelude.{◌≡◌, ℕ, ◌+◌, ◌-◌, ◌*◌, ◌++◌, List, [], flat_map, Option, None, Some}
use Rattle.std.specs.Option.{option_map_or}
use Rattle.colour_tables.specs.MadeLayers.{bytes_of_u16, bytes_of_u24, bytes_of_u32, layer_bytes, offset_of}
use Rattle.colour_tables.specs.MadePaints.{first_size, forest_bytes, forest_layers, forest_places, list_size}
use Rattle.colour_tables.specs.MadePaints.{own_count, own_places, shape_bytes}
use Rattle.colour_tables.specs.PaintLists.{tree_size}
use Rattle.colour_tables.specs.Paints.{Tree, shape_size}
use Rattle.colour_tables.specs.declared.layer.Layer.{Layer}
use Rattle.colour_writers.specs.declared.places.Places.{Places}

-- the Layer records of a glyph, if it has any
abbrev pub layers_bytes : Option (List Layer) → List ℕ
layers_bytes layers = option_map_or (flat_map layer_bytes) layers []

-- the header up to numLayerRecords, of so many glyphs and layers
unfoldable pub header_of : ℕ → ℕ → ℕ → ℕ → List ℕ
header_of version place glyphs layers =
    bytes_of_u16 version ++ bytes_of_u16 glyphs ++ bytes_of_u32 (offset_of glyphs place)
    ++ bytes_of_u32 (offset_of layers (place + 6 * glyphs)) ++ bytes_of_u16 layers

-- how many glyphs something is said of: one, or none
abbrev pub here : {X : Type 0} → Option X → ℕ
here None = 0
here (Some x) = 1

-- the bytes of a tree whose layers are numbered from an index on
abbrev pub tree_bytes : ℕ → Tree → List ℕ
tree_bytes index tree =
    shape_bytes tree.shape tree.first tree.rest (first_size tree.below) index
    ++ forest_bytes (index + own_count tree.shape tree.below) tree.below

-- how many layers a tree and those below it list
abbrev pub tree_layers : Tree → ℕ
tree_layers tree = own_count tree.shape tree.below + forest_layers tree.below

-- the places of these, of a tree at a place
abbrev pub tree_places : ℕ → Tree → List ℕ
tree_places at tree =
    own_places tree.shape (at + shape_size tree.shape) tree.below
    ++ forest_places (at + shape_size tree.shape) tree.below

-- how many bytes and layers the tree of a glyph has, if it has one
abbrev pub size_here : Option Tree → ℕ
size_here o = option_map_or tree_size o 0

abbrev pub layers_here : Option Tree → ℕ
layers_here o = option_map_or tree_layers o 0

-- its bytes, and the places of its layers
abbrev pub bytes_here : ℕ → Option Tree → List ℕ
bytes_here index o = option_map_or (tree_bytes index) o []

abbrev pub places_here : ℕ → Option Tree → List ℕ
places_here at o = option_map_or (tree_places at) o []

-- the BaseGlyphPaintRecord of a glyph, and its Clip, in a list at a place
abbrev pub root_bytes : ℕ → ℕ → ℕ → Option Tree → List ℕ
root_bytes list g at o = option_map_or (λ tree. bytes_of_u16 g ++ bytes_of_u32 (at - list)) o []

abbrev pub clip_bytes : ℕ → ℕ → ℕ → Option Tree → List ℕ
clip_bytes list g at o =
    option_map_or (λ tree. bytes_of_u16 g ++ bytes_of_u16 g ++ bytes_of_u24 (at - list)) o []

-- the places of lists, of so many glyphs with layers, layers, glyphs with paints, layers of these, bytes of these,
-- glyphs with clip boxes, and bytes of these
pub record ArePlaces (glyphs layer_count paint_count place_count paint_size box_count box_size : ℕ) (at : Places)
    : Type 0 where
  pub bases : at.bases ≡ 34 + (6 * glyphs + 4 * layer_count)
  pub layers : at.layers ≡ at.bases + list_size 0 6 paint_count
  pub paints : at.paints ≡ at.layers + list_size 0 4 place_count
  pub clips : at.clips ≡ at.paints + paint_size
  pub boxes : at.boxes ≡ at.clips + list_size 1 7 box_count
  pub map : at.map ≡ at.boxes + box_size

-- the header after numLayerRecords, of so many glyphs with paints, layers of these, and glyphs with clip boxes, and of
-- a map and a store of so many bytes
unfoldable pub paint_header_of : ℕ → ℕ → ℕ → ℕ → ℕ → Places → List ℕ
paint_header_of paints layers boxes map store at =
    bytes_of_u32 (offset_of paints at.bases) ++ bytes_of_u32 (offset_of layers at.layers)
    ++ bytes_of_u32 (offset_of boxes at.clips) ++ bytes_of_u32 (offset_of map at.map)
    ++ bytes_of_u32 (offset_of store (at.map + map))
