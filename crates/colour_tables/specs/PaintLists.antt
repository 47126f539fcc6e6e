-- The lists of a colour table of version 1 (OpenType 1.9, COLR, Header; BaseGlyphList, LayerList and ClipList tables).
use Rattle.std.specs.Prelude.{ℕ, zero, suc, ◌+◌, ◌*◌, nat_eq, nat_le, nat_lt, Bool, true, ◌&&◌, ◌||◌, List, [], ◌∷◌}
use Rattle.std.specs.Prelude.{drop, is_some, length, slice_index, if◌then◌else◌, Option, None, Some}
use Rattle.std.specs.Option.{option_and_then, option_map_or}
use Rattle.sfnt_bytes.specs.Number.{u16_at, u32_at}
use Rattle.colour_tables.specs.ListedGlyphs.{said_of, sum_below}
use Rattle.colour_tables.specs.LayerLists.{depth, has_layer_lists, layers_at, layers_have_room}
use Rattle.colour_tables.specs.Paints.{MAX_DEPTH, Forest, Bare, With, Tree, place_from, shape_size, tree_at, u24_at}
use Rattle.colour_tables.specs.declared.layer.Layer.{Layer}
use Rattle.colour_tables.specs.declared.shape.Kind.{Kind}
use Rattle.colour_tables.specs.declared.shape.Kind.TheVariants.{ClipBox, Paint}

-- baseGlyphListOffset
unfoldable pub base_list_offset : List ℕ → ℕ
base_list_offset t = u32_at t 14

-- layerListOffset
unfoldable pub layer_list_offset : List ℕ → ℕ
layer_list_offset t = u32_at t 18

-- clipListOffset
unfoldable pub clip_list_offset : List ℕ → ℕ
clip_list_offset t = u32_at t 22

-- the uint32 count of a list that has so many bytes before it, 0 where there is no list
abbrev pub count_at : List ℕ → ℕ → ℕ → ℕ
count_at t offset before = if nat_eq offset 0 then 0 else u32_at t (offset + before)

-- the records of such a list lie within the table
abbrev pub has_list : List ℕ → ℕ → ℕ → ℕ → Bool
has_list t offset before size =
    nat_eq offset 0 || nat_le (offset + (before + 4) + size * count_at t offset before) (length t)

-- BaseGlyphPaintRecord: glyphID, and the place of paintOffset, from that of the list
abbrev pub roots_in : ℕ → ℕ → List ℕ → List (ℕ × ℕ)
roots_in at zero b = []
roots_in at (suc k) b = (u16_at b 0, place_from at (u32_at b 2)) ∷ roots_in at k (drop 6 b)

-- the base glyphs of a table, each with the place of its paint
unfoldable pub roots_of : List ℕ → List (ℕ × ℕ)
roots_of t =
    let at = base_list_offset t in roots_in at (count_at t at 0) (drop (at + 4) t)

-- the places of paintOffsets
abbrev pub places_in : ℕ → ℕ → List ℕ → List ℕ
places_in at zero b = []
places_in at (suc k) b = place_from at (u32_at b 0) ∷ places_in at k (drop 4 b)

-- the places of the layers of a table
unfoldable pub layer_places_of : List ℕ → List ℕ
layer_places_of t =
    let at = layer_list_offset t in places_in at (count_at t at 0) (drop (at + 4) t)

-- Clip: startGlyphID, endGlyphID, and the place of clipBoxOffset, from that of the list
pub record Clip : Type 0 where
  pub first : ℕ
  pub last : ℕ
  pub place : ℕ

abbrev pub clips_in : ℕ → ℕ → List ℕ → List Clip
clips_in at zero b = []
clips_in at (suc k) b =
    record { first = u16_at b 0; last = u16_at b 2; place = place_from at (u24_at b 4) } ∷ clips_in at k (drop 7 b)

-- the clips of a table
unfoldable pub clips_of : List ℕ → List Clip
clips_of t =
    let at = clip_list_offset t in clips_in at (count_at t at 1) (drop (at + 5) t)

-- the place of the clip box of a glyph
abbrev pub clip_place : ℕ → List Clip → Option ℕ
clip_place g [] = None
clip_place g (c ∷ cs) = if nat_le c.first g && nat_le g c.last then Some c.place else clip_place g cs

-- what a table says of a glyph among n
pub record Colour : Type 0 where
  pub layers : Option (List Layer)
  pub paint : Option Tree
  pub box : Option Tree

-- nothing is said of a glyph
abbrev pub no_colour : Colour
no_colour = record { layers = None; paint = None; box = None }

abbrev pub has_colour : Colour → Bool
has_colour c = is_some c.layers || is_some c.paint || is_some c.box

-- the tree of a kind at a place of a table
unfoldable pub tree_in : ℕ → List ℕ → Kind → ℕ → Option Tree
tree_in n t k at = tree_at n t (layer_places_of t) MAX_DEPTH at k

-- the paint of a glyph
unfoldable pub paint_at : ℕ → List ℕ → ℕ → Option Tree
paint_at n t g = option_and_then (tree_in n t Paint) (said_of g (roots_of t))

-- the clip box of a glyph
unfoldable pub box_at : ℕ → List ℕ → ℕ → Option Tree
box_at n t g = option_and_then (tree_in n t ClipBox) (clip_place g (clips_of t))

-- what a table says of a glyph
abbrev pub colour_at : ℕ → List ℕ → ℕ → Colour
colour_at n t g = record { layers = layers_at t g; paint = paint_at n t g; box = box_at n t g }

-- base glyphs ascend from one on, each is below n, and its paint is read
abbrev pub are_roots : ℕ → List ℕ → ℕ → List (ℕ × ℕ) → Bool
are_roots n t from [] = true
are_roots n t from (r ∷ rs) =
    nat_le from r.0 && nat_lt r.0 n && is_some (tree_in n t Paint r.1) && are_roots n t (r.0 + 1) rs

-- clips ascend from a glyph on and do not overlap, each is of glyphs below n, and its box is read
abbrev pub are_clips : ℕ → List ℕ → ℕ → List Clip → Bool
are_clips n t from [] = true
are_clips n t from (c ∷ cs) =
    nat_le from c.first && nat_le c.first c.last && nat_lt c.last n && is_some (tree_in n t ClipBox c.place)
    && are_clips n t (c.last + 1) cs

-- the lists of version 1 lie within a table, the ClipList has format 1, and what they list is in order and read
unfoldable pub has_paint_lists : ℕ → List ℕ → Bool
has_paint_lists n t =
    has_list t (base_list_offset t) 0 6 && has_list t (layer_list_offset t) 0 4 && has_list t (clip_list_offset t) 1 7
    && (nat_eq (clip_list_offset t) 0 || nat_eq (slice_index t (clip_list_offset t)) 1)
    && are_roots n t 0 (roots_of t) && are_clips n t 0 (clips_of t)

-- how many bytes trees have
abbrev pub forest_size : Forest → ℕ
forest_size Bare = 0
forest_size (With s first rest below after) = shape_size s + forest_size below + forest_size after

-- how many bytes a tree has
abbrev pub tree_size : Tree → ℕ
tree_size tree = shape_size tree.shape + forest_size tree.below

-- how many bytes what is said of a glyph has
abbrev pub colour_size : Colour → ℕ
colour_size c = 4 * depth c.layers + option_map_or tree_size c.paint 0 + option_map_or tree_size c.box 0

-- how many bytes what is said of all glyphs has at most, so that an Offset24 leads to any of them
unfoldable pub MAX_BYTES : ℕ
MAX_BYTES = 16777215

-- what is said of n glyphs has room in a table
unfoldable pub colours_have_room : ℕ → (ℕ → Colour) → Bool
colours_have_room n x =
    layers_have_room n (λ g. (x g).layers) && nat_le (sum_below (λ g. colour_size (x g)) n) MAX_BYTES

-- a table of version 1 among n glyphs: its header is there, its lists are, and what it says has room
unfoldable pub is_paint_table : ℕ → List ℕ → Bool
is_paint_table n t =
    nat_le 34 (length t) && nat_eq (u16_at t 0) 1 && has_layer_lists n t && has_paint_lists n t
    && colours_have_room n (colour_at n t)
