-- The table of version 1 that is written: each tree is followed by what its offsets lead to, and nothing is shared
-- (OpenType 1.9, COLR, Header; BaseGlyphList, LayerList and ClipList tables; Paint tables).
use Rattle.std.specs.Prelude.{ℕ, suc, ◌+◌, ◌-◌, ◌*◌, nat_eq, List, [], ◌∷◌, ◌++◌, length, if◌then◌else◌}
use Rattle.colour_tables.specs.ListedGlyphs.{listed}
use Rattle.colour_tables.specs.MadeLayers.{bytes_of_u16, bytes_of_u24, bytes_of_u32, layer_header, layer_lists}
use Rattle.colour_tables.specs.MadeLayers.{layer_total, offset_of}
use Rattle.colour_tables.specs.PaintLists.{Colour, forest_size, tree_size}
use Rattle.colour_tables.specs.Paints.{Forest, Bare, With, Tree, shape_size, with_tree}
use Rattle.colour_tables.specs.Stores.{Store}
use Rattle.colour_tables.specs.declared.layer.Layer.{Layer}
use Rattle.colour_tables.specs.declared.shape.Shape.{Shape}
use Rattle.colour_tables.specs.declared.shape.Shape.TheVariants.{Layers, One, Plain, Two}

-- the bytes of one shape, whose offsets lead to what stands after it: the second of them after so many bytes; layers
-- are numbered from an index on
abbrev pub shape_bytes : Shape → ℕ → List ℕ → ℕ → ℕ → List ℕ
shape_bytes (Plain more) first rest size index = first ∷ rest
shape_bytes (One more k) first rest size index = first ∷ bytes_of_u24 (4 + more) ++ rest
shape_bytes (Two more k l) first rest size index =
    first ∷ bytes_of_u24 (7 + more) ++ rest ++ bytes_of_u24 (7 + more + size)
shape_bytes Layers first rest size index = first ∷ rest ++ bytes_of_u32 index

-- how many bytes the first of trees has
abbrev pub first_size : Forest → ℕ
first_size Bare = 0
first_size (With s first rest below after) = shape_size s + forest_size below

-- how many trees stand in a row
abbrev pub forest_count : Forest → ℕ
forest_count Bare = 0
forest_count (With s first rest below after) = suc (forest_count after)

-- the places of trees in a row from a place on
abbrev pub starts : ℕ → Forest → List ℕ
starts at Bare = []
starts at (With s first rest below after) = at ∷ starts (at + (shape_size s + forest_size below)) after

-- what a shape lists as layers: the places of the trees below it
abbrev pub own_places : Shape → ℕ → Forest → List ℕ
own_places (Plain more) at below = []
own_places (One more k) at below = []
own_places (Two more k l) at below = []
own_places Layers at below = starts at below

abbrev pub own_count : Shape → Forest → ℕ
own_count (Plain more) below = 0
own_count (One more k) below = 0
own_count (Two more k l) below = 0
own_count Layers below = forest_count below

-- the places of all layers of trees from a place on: those of a tree, then those of what is below it
abbrev pub forest_places : ℕ → Forest → List ℕ
forest_places at Bare = []
forest_places at (With s first rest below after) =
    own_places s (at + shape_size s) below
    ++ (forest_places (at + shape_size s) below ++ forest_places (at + (shape_size s + forest_size below)) after)

-- how many they are
abbrev pub forest_layers : Forest → ℕ
forest_layers Bare = 0
forest_layers (With s first rest below after) = own_count s below + forest_layers below + forest_layers after

-- the bytes of trees whose layers are numbered from an index on
abbrev pub forest_bytes : ℕ → Forest → List ℕ
forest_bytes index Bare = []
forest_bytes index (With s first rest below after) =
    shape_bytes s first rest (first_size below) index
    ++ (forest_bytes (index + own_count s below) below
    ++ forest_bytes (index + own_count s below + forest_layers below) after)

-- the trees of glyphs in a row
abbrev pub forest_of : List (ℕ × Tree) → Forest
forest_of [] = Bare
forest_of (e ∷ es) = with_tree e.1 (forest_of es)

-- glyphs with the places of their trees, from a place on
abbrev pub rooted : ℕ → List (ℕ × Tree) → List (ℕ × ℕ)
rooted at [] = []
rooted at (e ∷ es) = (e.0, at) ∷ rooted (at + tree_size e.1) es

-- a list with so many bytes before its count, whose records have a size
abbrev pub list_size : ℕ → ℕ → ℕ → ℕ
list_size before size count = if nat_eq count 0 then 0 else before + 4 + size * count

-- BaseGlyphPaintRecords of glyphs with the places of their paints, in a list at a place: glyphID, paintOffset
abbrev pub root_rows : ℕ → List (ℕ × ℕ) → List ℕ
root_rows at [] = []
root_rows at (r ∷ rs) = bytes_of_u16 r.0 ++ bytes_of_u32 (r.1 - at) ++ root_rows at rs

-- BaseGlyphList: numBaseGlyphPaintRecords and these
abbrev pub base_list : ℕ → List (ℕ × ℕ) → List ℕ
base_list at [] = []
base_list at (r ∷ rs) = bytes_of_u32 (length (r ∷ rs)) ++ root_rows at (r ∷ rs)

-- LayerList: numLayers, paintOffsets
abbrev pub place_rows : ℕ → List ℕ → List ℕ
place_rows at [] = []
place_rows at (p ∷ ps) = bytes_of_u32 (p - at) ++ place_rows at ps

abbrev pub layer_list : ℕ → List ℕ → List ℕ
layer_list at [] = []
layer_list at (p ∷ ps) = bytes_of_u32 (length (p ∷ ps)) ++ place_rows at (p ∷ ps)

-- ClipList: format, numClips, and a Clip of each glyph: startGlyphID, endGlyphID, clipBoxOffset
abbrev pub clip_rows : ℕ → List (ℕ × ℕ) → List ℕ
clip_rows at [] = []
clip_rows at (r ∷ rs) = bytes_of_u16 r.0 ++ bytes_of_u16 r.0 ++ bytes_of_u24 (r.1 - at) ++ clip_rows at rs

abbrev pub clip_list : ℕ → List (ℕ × ℕ) → List ℕ
clip_list at [] = []
clip_list at (r ∷ rs) = 1 ∷ bytes_of_u32 (length (r ∷ rs)) ++ clip_rows at (r ∷ rs)

-- the places of what stands after the lists of layers, of these layers, paints and clip boxes of glyphs:
-- BaseGlyphList, LayerList, paints, ClipList, and clip boxes, near enough to their list for an Offset24
abbrev pub base_place : List (ℕ × List Layer) → ℕ
base_place layers = 34 + (6 * length layers + 4 * layer_total layers)

abbrev pub layers_place : List (ℕ × List Layer) → List (ℕ × Tree) → ℕ
layers_place layers paints = base_place layers + list_size 0 6 (length paints)

abbrev pub paints_place : List (ℕ × List Layer) → List (ℕ × Tree) → ℕ
paints_place layers paints = layers_place layers paints + list_size 0 4 (forest_layers (forest_of paints))

abbrev pub clips_place : List (ℕ × List Layer) → List (ℕ × Tree) → ℕ
clips_place layers paints = paints_place layers paints + forest_size (forest_of paints)

abbrev pub boxes_place : List (ℕ × List Layer) → List (ℕ × Tree) → List (ℕ × Tree) → ℕ
boxes_place layers paints boxes = clips_place layers paints + list_size 1 7 (length boxes)

-- then what varies: the map, and the store
abbrev pub map_place : List (ℕ × List Layer) → List (ℕ × Tree) → List (ℕ × Tree) → ℕ
map_place layers paints boxes = boxes_place layers paints boxes + forest_size (forest_of boxes)

abbrev pub store_place : List (ℕ × List Layer) → List (ℕ × Tree) → List (ℕ × Tree) → Store → ℕ
store_place layers paints boxes w = map_place layers paints boxes + length w.index_map

-- the header after numLayerRecords: baseGlyphListOffset, layerListOffset, clipListOffset, varIndexMapOffset,
-- itemVariationStoreOffset
abbrev pub paint_header : List (ℕ × List Layer) → List (ℕ × Tree) → List (ℕ × Tree) → Store → List ℕ
paint_header layers paints boxes w =
    bytes_of_u32 (offset_of (length paints) (base_place layers))
    ++ bytes_of_u32 (offset_of (forest_layers (forest_of paints)) (layers_place layers paints))
    ++ bytes_of_u32 (offset_of (length boxes) (clips_place layers paints))
    ++ bytes_of_u32 (offset_of (length w.index_map) (map_place layers paints boxes))
    ++ bytes_of_u32 (offset_of (length w.store) (store_place layers paints boxes w))

-- what stands after the lists of layers
abbrev pub paint_lists : List (ℕ × List Layer) → List (ℕ × Tree) → List (ℕ × Tree) → Store → List ℕ
paint_lists layers paints boxes w =
    base_list (base_place layers) (rooted (paints_place layers paints) paints)
    ++ (layer_list (layers_place layers paints) (forest_places (paints_place layers paints) (forest_of paints))
    ++ (forest_bytes 0 (forest_of paints)
    ++ (clip_list (clips_place layers paints) (rooted (boxes_place layers paints boxes) boxes)
    ++ (forest_bytes 0 (forest_of boxes)
    ++ (w.index_map ++ w.store)))))

-- the table of these
abbrev pub table_of_lists : List (ℕ × List Layer) → List (ℕ × Tree) → List (ℕ × Tree) → Store → List ℕ
table_of_lists layers paints boxes w =
    layer_header 1 34 layers ++ paint_header layers paints boxes w ++ layer_lists layers
    ++ paint_lists layers paints boxes w

-- the table of version 1 of what is said of n glyphs, and of what varies
unfoldable pub paint_table : ℕ → Store → (ℕ → Colour) → List ℕ
paint_table n w x =
    table_of_lists (listed (λ g. (x g).layers) 0 n) (listed (λ g. (x g).paint) 0 n) (listed (λ g. (x g).box) 0 n) w
