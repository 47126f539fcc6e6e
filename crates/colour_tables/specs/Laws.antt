-- Laws of colour tables, this project's own, each of them the contract of a function.
use Rattle.std.specs.Prelude.{◌≡◌, ℕ, ◌+◌, ◌<◌, ◌≤◌, true, List, ◌++◌, length, Option, Some, IfSome}
use Rattle.sfnt_bytes.specs.Number.{u16_at}
use Rattle.colour_tables.specs.ListedGlyphs.{AreBelow, listed}
use Rattle.colour_tables.specs.LayerLists.{has_layer_lists, layers_at, layers_have_room}
use Rattle.colour_tables.specs.MadeLayers.{layer_header, layer_lists, layer_table}
use Rattle.colour_tables.specs.MadePaints.{paint_table}
use Rattle.colour_tables.specs.PaintLists.{Colour, box_at, colour_at, colours_have_room, has_paint_lists, paint_at}
use Rattle.colour_tables.specs.PaintLists.{tree_in}
use Rattle.colour_tables.specs.Paints.{Tree}
use Rattle.colour_tables.specs.Stores.{Store, store_of}
use Rattle.colour_tables.specs.declared.layer.Layer.{Layer}
use Rattle.colour_tables.specs.declared.shape.Kind.{Kind}
use Rattle.colour_tables.specs.declared.shape.Kind.TheVariants.{ClipBox, Paint}

-- the layers of n glyphs are what is read of a table
pub record HasLayersOf (n : ℕ) (said : ℕ → Option (List Layer)) (t : List ℕ) : Type 0 where
  pub lists : has_layer_lists n t ≡ true
  pub layers : (g : ℕ) → g < n → layers_at t g ≡ said g

-- the layers of glyphs that are written are read back, whatever stands between the header and them, and after them
abbrev pub LayersAreReadBack : Type 0
LayersAreReadBack =
    (n version : ℕ) (layers : ℕ → Option (List Layer)) (between after : List ℕ)
    → HasLayersOf n layers
    (layer_header version (14 + length between) (listed layers 0 n) ++ between ++ layer_lists (listed layers 0 n)
    ++ after)

-- a tree, if there is one, is read as a kind of some table of n glyphs
abbrev pub IsRead : ℕ → Kind → Option Tree → Type 0
IsRead n k tree = IfSome tree (λ x. (t : List ℕ) × (at : ℕ) × (tree_in n t k at ≡ Some x))

-- the paints and clip boxes of glyphs are so
abbrev pub AreRead : ℕ → (ℕ → Colour) → Type 0
AreRead n x = (g : ℕ) → IsRead n Paint (x g).paint × IsRead n ClipBox (x g).box

-- what varies is read of some table
abbrev pub IsStored : Store → Type 0
IsStored w = (t : List ℕ) × (store_of t ≡ w)

-- what varies, and what is said of n glyphs, is what is read of a table of version 1
pub record HasColoursOf (n : ℕ) (w : Store) (x : ℕ → Colour) (t : List ℕ) : Type 0 where
  pub version : u16_at t 0 ≡ 1
  pub header : 34 ≤ length t
  pub layer_lists : has_layer_lists n t ≡ true
  pub paint_lists : has_paint_lists n t ≡ true
  pub layers : (g : ℕ) → g < n → layers_at t g ≡ (x g).layers
  pub paint : (g : ℕ) → g < n → paint_at n t g ≡ (x g).paint
  pub box : (g : ℕ) → g < n → box_at n t g ≡ (x g).box
  pub store : store_of t ≡ w

-- what is written of glyphs is read back
abbrev pub PaintsAreReadBack : Type 0
PaintsAreReadBack =
    (n : ℕ) (w : Store) (x : ℕ → Colour) → IsStored w → AreRead n x → HasColoursOf n w x (paint_table n w x)

-- what is said of a glyph is what a table of bytes says of it
abbrev pub LayersOfBytes : ℕ → Option (List Layer) → Type 0
LayersOfBytes g x = (t : List ℕ) × AreBelow 256 t × (layers_at t g ≡ x)

abbrev pub ColourOfBytes : ℕ → ℕ → Colour → Type 0
ColourOfBytes n g x = (t : List ℕ) × AreBelow 256 t × (colour_at n t g ≡ x)

-- what varies is bytes, and the map is no longer than half of what an offset leads over
pub record StoreOfBytes (w : Store) : Type 0 where
  pub index_map : AreBelow 256 w.index_map
  pub store : AreBelow 256 w.store
  pub size : length w.index_map < 2147483648

-- what has room is written as bytes: no number of the table is too large for its field
pub record TablesAreBytes (n : ℕ) : Type 0 where
  pub layers :
      (x : ℕ → Option (List Layer)) → ((g : ℕ) → LayersOfBytes g (x g)) → layers_have_room n x ≡ true
      → AreBelow 256 (layer_table n x)
  pub colours :
      (w : Store) (x : ℕ → Colour) → StoreOfBytes w → ((g : ℕ) → ColourOfBytes n g (x g))
      → colours_have_room n x ≡ true → AreBelow 256 (paint_table n w x)

abbrev pub WrittenAreBytes : Type 0
WrittenAreBytes = (n : ℕ) → n < 65536 → TablesAreBytes n
