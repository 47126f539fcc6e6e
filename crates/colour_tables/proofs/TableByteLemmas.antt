-- Tables that are written of bytes are bytes.
use Rattle.std.proofs.Common.{◌≡◌, ℕ, zero, suc, ◌+◌, ◌*◌, ◌<◌, ◌≤◌, Bool, true, false, cond, eqb, leb, not, ◌&&◌}
use Rattle.std.proofs.Common.{List, []}
use Rattle.std.proofs.Common.{◌∷◌, ◌++◌, length, drop, take, find, flat_map, Option, None, Some, IfSome, refl, ap}
use Rattle.std.proofs.Common.{subst}
use Rattle.std.proofs.Common.{arith}
use Rattle.std.specs.Option.{option_and_then, option_map, option_map_or}
use Rattle.std.proofs.lemmas.Bool.{and_parts, leb-true}
use Rattle.colour_tables.specs.ListedGlyphs.{AreBelow, listed, said_of, sum_below}
use Rattle.colour_tables.specs.LayerLists.{MAX_LAYERS, base_count, bases_of, depth, layers_at, layers_have_room}
use Rattle.colour_tables.specs.LayerLists.{layers_in, layers_of}
use Rattle.colour_tables.specs.LayerLists.{layers_offset}
use Rattle.colour_tables.specs.Laws.{ColourOfBytes, LayersOfBytes, StoreOfBytes, WrittenAreBytes}
use Rattle.colour_tables.specs.MadeLayers.{base_rows, bytes_of_u16, bytes_of_u32, layer_bytes, layer_header}
use Rattle.colour_tables.specs.MadeLayers.{layer_lists}
use Rattle.colour_tables.specs.MadeLayers.{layer_rows, layer_table, layer_total, offset_of}
use Rattle.colour_tables.specs.MadePaints.{base_list, base_place, boxes_place, clip_list, clip_rows, clips_place}
use Rattle.colour_tables.specs.MadePaints.{forest_bytes, forest_layers, forest_of, forest_places, layer_list}
use Rattle.colour_tables.specs.MadePaints.{layers_place}
use Rattle.colour_tables.specs.MadePaints.{list_size, map_place, paint_header, paint_lists, paint_table, paints_place}
use Rattle.colour_tables.specs.MadePaints.{place_rows, root_rows, rooted, store_place, table_of_lists}
use Rattle.colour_tables.specs.PaintLists.{Colour, MAX_BYTES, base_list_offset, box_at, clip_list_offset, clip_place}
use Rattle.colour_tables.specs.PaintLists.{clips_of, colour_size}
use Rattle.colour_tables.specs.PaintLists.{colours_have_room, forest_size, layer_places_of, paint_at, roots_of}
use Rattle.colour_tables.specs.PaintLists.{tree_in}
use Rattle.colour_tables.specs.PaintLists.{tree_size}
use Rattle.colour_tables.specs.Paints.{MAX_DEPTH, Tree}
use Rattle.colour_tables.specs.Stores.{Store, index_map_in, index_map_offset, index_map_size, store_end, store_in}
use Rattle.colour_tables.specs.Stores.{store_of, store_offset}
use Rattle.sfnt_bytes.specs.Number.{u16_at, u32_at}
use Rattle.colour_tables.specs.declared.layer.Base.{Base}
use Rattle.colour_tables.specs.declared.layer.Layer.{Layer}
use Rattle.colour_tables.specs.declared.shape.Kind.{Kind}
use Rattle.colour_tables.specs.declared.shape.Kind.TheVariants.{ClipBox, Paint}
use Rattle.colour_tables.proofs.ByteLemmas.{AllSaid, AreBytes, below-drop, below-take, listed-all, listed-count}
use Rattle.colour_tables.proofs.ByteLemmas.{listed-sum}
use Rattle.colour_tables.proofs.ByteLemmas.{sum_said, u16-bytes, u16-small, u32-bytes}
use Rattle.colour_tables.proofs.FormedLemmas.{box-size, tree-formed}
use Rattle.colour_tables.proofs.GlyphLemmas.{below-append, sum-less}
use Rattle.colour_tables.proofs.PaintListLemmas.{rooted-long}
use Rattle.colour_tables.proofs.ForestLemmas.{places-long}
use Rattle.colour_tables.proofs.TreeByteLemmas.{TreeOfBytes, clip-bytes, forest-bytes, forest_of-bytes, forest_of-size}
use Rattle.colour_tables.proofs.TreeByteLemmas.{layers-least, place-bytes, places-below, root-bytes, tree-of_bytes}

-- layers of which each number has two bytes
abbrev Small : List Layer → Type 0
Small [] = Unit {0}
Small (l ∷ ls) = (l.glyph < 65536) × (l.palette_entry < 65536) × Small ls

small-read : (k : ℕ) (b : List ℕ) → AreBytes b → Small (layers_in k b)
small-read zero b are = tt
small-read (suc k) b are =
    (u16-small b 0 are, u16-small b 2 are, small-read k (drop 4 b) (below-drop 256 4 b are))

small-found : (t : List ℕ) → AreBytes t → (o : Option Base) → IfSome (option_map (layers_of t) o) Small
unfolding layers_of
small-found t are None = tt
small-found t are (Some b) =
    small-read b.count (drop (layers_offset t + 4 * b.first) t) (below-drop 256 (layers_offset t + 4 * b.first) t are)

small-layers : (g : ℕ) (x : Option (List Layer)) → LayersOfBytes g x → IfSome x Small
unfolding layers_at
small-layers g x of =
    subst (λ (o : Option (List Layer)). IfSome o Small) of.2
    (small-found of.0 of.1 (find (λ b. eqb b.glyph g) (bases_of of.0)))

-- their rows
layer-bytes : (ls : List Layer) → Small ls → AreBytes (flat_map layer_bytes ls)
layer-bytes [] are = tt
layer-bytes (l ∷ ls) are =
    below-append 256 (layer_bytes l) (flat_map layer_bytes ls)
    (below-append 256 (bytes_of_u16 l.glyph) (bytes_of_u16 l.palette_entry) (u16-bytes l.glyph are.0)
    (u16-bytes l.palette_entry are.1))
    (layer-bytes ls are.2)

rows-bytes : (end : ℕ) (es : List (ℕ × List Layer)) → AllSaid Small end es → AreBytes (layer_rows es)
rows-bytes end [] are = tt
rows-bytes end (e ∷ es) are =
    below-append 256 (flat_map layer_bytes e.1) (layer_rows es) (layer-bytes e.1 are.1) (rows-bytes end es are.2)

bases-bytes : (first end : ℕ) (es : List (ℕ × List Layer)) → AllSaid Small end es → end ≤ 65536
    → first + layer_total es < 65536 → AreBytes (base_rows first es)
bases-bytes first end [] are h low = tt
bases-bytes first end (e ∷ es) are h low =
    let glyph = bytes_of_u16 e.0 in
    let start = bytes_of_u16 first in
    let count = bytes_of_u16 (length e.1) in
    below-append 256 (glyph ++ start ++ count) (base_rows (first + length e.1) es)
    (below-append 256 (glyph ++ start) count
    (below-append 256 glyph start (u16-bytes e.0 (omega (arith, h, are.0))) (u16-bytes first (omega (arith, low))))
    (u16-bytes (length e.1) (omega (arith, low))))
    (bases-bytes (first + length e.1) end es are.2 h (omega (arith, low)))

total-sum : (es : List (ℕ × List Layer)) → layer_total es ≡ sum_said length es
total-sum [] = refl
total-sum (e ∷ es) = omega (arith, total-sum es)

offset-small : (count place : ℕ) → offset_of count place ≤ place
offset-small count place = by_test (eqb count 0)
  where
    by_test : (b : Bool) → cond b 0 place ≤ place
    by_test true = omega arith
    by_test false = omega arith

offset-bytes : (count place : ℕ) → place < 4294967296 → AreBytes (bytes_of_u32 (offset_of count place))
offset-bytes count place h = u32-bytes (offset_of count place) (omega (arith, h, offset-small count place))

header-bytes : (version place : ℕ) (es : List (ℕ × List Layer)) → version < 65536 → place + 6 * length es < 4294967296
    → length es < 65536 → layer_total es < 65536 → AreBytes (layer_header version place es)
header-bytes version place es v p count total =
    let a = bytes_of_u16 version in
    let b = bytes_of_u16 (length es) in
    let c = bytes_of_u32 (offset_of (length es) place) in
    let d = bytes_of_u32 (offset_of (layer_total es) (place + 6 * length es)) in
    below-append 256 (a ++ b ++ c ++ d) (bytes_of_u16 (layer_total es))
    (below-append 256 (a ++ b ++ c) d
    (below-append 256 (a ++ b) c (below-append 256 a b (u16-bytes version v) (u16-bytes (length es) count))
    (offset-bytes (length es) place (omega (arith, p))))
    (offset-bytes (layer_total es) (place + 6 * length es) p))
    (u16-bytes (layer_total es) total)

lists-bytes : (end : ℕ) (es : List (ℕ × List Layer)) → AllSaid Small end es → end ≤ 65536 → layer_total es < 65536
    → AreBytes (layer_lists es)
lists-bytes end es are h low =
    below-append 256 (base_rows 0 es) (layer_rows es) (bases-bytes 0 end es are h (omega (arith, low)))
    (rows-bytes end es are)

-- how many layers there are
few-layers : (n : ℕ) (x : ℕ → Option (List Layer)) → layers_have_room n x ≡ true
    → layer_total (listed x 0 n) < 65536
unfolding layers_have_room MAX_LAYERS
few-layers n x room =
    let most =
    leb-true (sum_below (λ g. depth (x g)) n) 65535
    (and_parts _ (leb (sum_below (λ g. depth (x g)) n) 65535) room).1 in
    omega (arith, most, total-sum (listed x 0 n), listed-sum length x n)

layer-table-bytes : (n : ℕ) (x : ℕ → Option (List Layer)) → n < 65536 → ((g : ℕ) → LayersOfBytes g (x g))
    → layers_have_room n x ≡ true → AreBytes (layer_table n x)
unfolding layer_table
layer-table-bytes n x low of room =
    let es = listed x 0 n in
    let are = listed-all Small x (λ g. small-layers g (x g) (of g)) 0 n n (omega arith) in
    let count = listed-count x 0 n in
    let total = few-layers n x room in
    below-append 256 (layer_header 0 14 es) (layer_lists es)
    (header-bytes 0 14 es (omega arith) (omega (arith, count, low)) (omega (arith, count, low)) total)
    (lists-bytes n es are (omega (arith, low)) total)

-- trees that are read of a table of bytes
tree-bytes : (n : ℕ) (t : List ℕ) → AreBytes t → (at : ℕ) (k : Kind) (tree : Tree) → tree_in n t k at ≡ Some tree
    → TreeOfBytes tree
unfolding tree_in
tree-bytes n t are at k tree e = tree-of_bytes n t (layer_places_of t) are MAX_DEPTH at k tree e

box-small : (n : ℕ) (t : List ℕ) (at : ℕ) (tree : Tree) → tree_in n t ClipBox at ≡ Some tree → tree_size tree ≤ 13
unfolding tree_in
box-small n t at tree e = box-size n MAX_DEPTH tree (tree-formed n t (layer_places_of t) MAX_DEPTH at ClipBox tree e)

abbrev SmallBox : Tree → Type 0
SmallBox tree = TreeOfBytes tree × (tree_size tree ≤ 13)

paint-found : (n : ℕ) (t : List ℕ) → AreBytes t → (o : Option ℕ)
    → IfSome (option_and_then (tree_in n t Paint) o) TreeOfBytes
paint-found n t are None = tt
paint-found n t are (Some at) = by_tree (tree_in n t Paint at) refl
  where
    by_tree : (o : Option Tree) → tree_in n t Paint at ≡ o → IfSome o TreeOfBytes
    by_tree None e = tt
    by_tree (Some tree) e = tree-bytes n t are at Paint tree e

box-found : (n : ℕ) (t : List ℕ) → AreBytes t → (o : Option ℕ)
    → IfSome (option_and_then (tree_in n t ClipBox) o) SmallBox
box-found n t are None = tt
box-found n t are (Some at) = by_tree (tree_in n t ClipBox at) refl
  where
    by_tree : (o : Option Tree) → tree_in n t ClipBox at ≡ o → IfSome o SmallBox
    by_tree None e = tt
    by_tree (Some tree) e = (tree-bytes n t are at ClipBox tree e, box-small n t at tree e)

paint-of_bytes : (n g : ℕ) (x : Colour) → ColourOfBytes n g x → IfSome x.paint TreeOfBytes
unfolding paint_at
paint-of_bytes n g x of =
    subst (λ (o : Option Tree). IfSome o TreeOfBytes) (ap (λ (c : Colour). c.paint) of.2)
    (paint-found n of.0 of.1 (said_of g (roots_of of.0)))

box-of_bytes : (n g : ℕ) (x : Colour) → ColourOfBytes n g x → IfSome x.box SmallBox
unfolding box_at
box-of_bytes n g x of =
    subst (λ (o : Option Tree). IfSome o SmallBox) (ap (λ (c : Colour). c.box) of.2)
    (box-found n of.0 of.1 (clip_place g (clips_of of.0)))

layers-of_bytes : (n g : ℕ) (x : Colour) → ColourOfBytes n g x → LayersOfBytes g x.layers
layers-of_bytes n g x of = (of.0, of.1, ap (λ (c : Colour). c.layers) of.2)

boxes-of_bytes : (end : ℕ) (es : List (ℕ × Tree)) → AllSaid SmallBox end es → AllSaid TreeOfBytes end es
boxes-of_bytes end [] are = tt
boxes-of_bytes end (e ∷ es) are = (are.0, are.1.0, boxes-of_bytes end es are.2)

boxes-small : (end : ℕ) (es : List (ℕ × Tree)) → AllSaid SmallBox end es → sum_said tree_size es ≤ 13 * length es
boxes-small end [] are = omega arith
boxes-small end (e ∷ es) are = omega (arith, are.1.1, boxes-small end es are.2)

-- lists
base-bytes : (at p end : ℕ) (es : List (ℕ × Tree)) → AllSaid TreeOfBytes end es → end ≤ 65536 → length es ≤ end
    → p + sum_said tree_size es < 4294967296 → AreBytes (base_list at (rooted p es))
base-bytes at p end [] are h count low = tt
base-bytes at p end (e ∷ es) are h count low =
    let roots = rooted p (e ∷ es) in
    below-append 256 (bytes_of_u32 (length roots)) (root_rows at roots)
    (u32-bytes (length roots) (omega (arith, rooted-long p (e ∷ es), count, h)))
    (root-bytes at p end (e ∷ es) are h low)

clips-bytes : (at p end : ℕ) (es : List (ℕ × Tree)) → AllSaid TreeOfBytes end es → end ≤ 65536 → length es ≤ end
    → p + sum_said tree_size es < at + 16777216 → AreBytes (clip_list at (rooted p es))
clips-bytes at p end [] are h count low = tt
clips-bytes at p end (e ∷ es) are h count low =
    let roots = rooted p (e ∷ es) in (
      omega arith,
      below-append 256 (bytes_of_u32 (length roots)) (clip_rows at roots)
          (u32-bytes (length roots) (omega (arith, rooted-long p (e ∷ es), count, h)))
          (clip-bytes at p end (e ∷ es) are h low),
    )

layers-bytes : (at m : ℕ) (ps : List ℕ) → m ≤ 4294967296 → length ps < 4294967296 → AreBelow m ps
    → AreBytes (layer_list at ps)
layers-bytes at m [] h count are = tt
layers-bytes at m (p ∷ ps) h count are =
    below-append 256 (bytes_of_u32 (length (p ∷ ps))) (place_rows at (p ∷ ps)) (u32-bytes (length (p ∷ ps)) count)
    (place-bytes at m (p ∷ ps) h are)

list-small : (before size count : ℕ) → list_size before size count ≤ before + 4 + size * count
list-small before size count = by_test (eqb count 0)
  where
    by_test : (b : Bool) → cond b 0 (before + 4 + size * count) ≤ before + 4 + size * count
    by_test true = omega arith
    by_test false = omega arith

-- the table of lists
module _ (n : ℕ) (layers : List (ℕ × List Layer)) (paints boxes : List (ℕ × Tree)) (w : Store) (low : n < 65536)
    (layers_are : AllSaid Small n layers) (paints_are : AllSaid TreeOfBytes n paints)
    (boxes_are : AllSaid SmallBox n boxes) (store_is : StoreOfBytes w) (count : length layers ≤ n)
    (paint_count : length paints ≤ n) (box_count : length boxes ≤ n) (total : layer_total layers < 65536)
    (size : sum_said tree_size paints < 16777216) where
  abbrev at_map : ℕ
  at_map = map_place layers paints boxes

  trees_size : forest_size (forest_of paints) < 16777216
  trees_size = omega (arith, size, forest_of-size paints)

  boxes_size : forest_size (forest_of boxes) < 851956
  boxes_size = omega (arith, forest_of-size boxes, boxes-small n boxes boxes_are, box_count, low)

  map-near : at_map < 2147483648
  map-near =
      omega (
        arith,
        count,
        total,
        paint_count,
        box_count,
        low,
        trees_size,
        boxes_size,
        list-small 0 6 (length paints),
        list-small 0 4 (forest_layers (forest_of paints)),
        list-small 1 7 (length boxes),
        layers-least (forest_of paints),
      )

  paint-header-bytes : AreBytes (paint_header layers paints boxes w)
  paint-header-bytes =
      let near = map-near in
      let a = bytes_of_u32 (offset_of (length paints) (base_place layers)) in
      let b = bytes_of_u32 (offset_of (forest_layers (forest_of paints)) (layers_place layers paints)) in
      let c = bytes_of_u32 (offset_of (length boxes) (clips_place layers paints)) in
      let d = bytes_of_u32 (offset_of (length w.index_map) at_map) in
      let e = bytes_of_u32 (offset_of (length w.store) (store_place layers paints boxes w)) in
      below-append 256 (a ++ b ++ c ++ d) e
      (below-append 256 (a ++ b ++ c) d
      (below-append 256 (a ++ b) c
      (below-append 256 a b (offset-bytes (length paints) (base_place layers) (omega (arith, near)))
      (offset-bytes (forest_layers (forest_of paints)) (layers_place layers paints) (omega (arith, near))))
      (offset-bytes (length boxes) (clips_place layers paints) (omega (arith, near))))
      (offset-bytes (length w.index_map) at_map (omega (arith, near))))
      (offset-bytes (length w.store) (store_place layers paints boxes w) (omega (arith, near, store_is.size)))

  roots-bytes : AreBytes (base_list (base_place layers) (rooted (paints_place layers paints) paints))
  roots-bytes =
      base-bytes (base_place layers) (paints_place layers paints) n paints paints_are (omega (arith, low)) paint_count
      (omega (arith, map-near, forest_of-size paints))

  places-bytes : AreBytes (layer_list (layers_place layers paints)
      (forest_places (paints_place layers paints) (forest_of paints)))
  places-bytes =
      let places = forest_places (paints_place layers paints) (forest_of paints) in
      layers-bytes (layers_place layers paints) 4294967296 places (omega arith)
      (omega (
        arith,
        places-long (paints_place layers paints) (forest_of paints),
        layers-least (forest_of paints),
        trees_size,
      ))
      (places-below (paints_place layers paints) 4294967296 (forest_of paints) (omega (arith, map-near)))

  box-list-bytes : AreBytes (clip_list (clips_place layers paints) (rooted (boxes_place layers paints boxes) boxes))
  box-list-bytes =
      clips-bytes (clips_place layers paints) (boxes_place layers paints boxes) n boxes
      (boxes-of_bytes n boxes boxes_are) (omega (arith, low)) box_count
      (omega (arith, list-small 1 7 (length boxes), box_count, low, forest_of-size boxes, boxes_size))

  trees-bytes : AreBytes (forest_bytes 0 (forest_of paints))
  trees-bytes =
      forest-bytes (forest_of paints) 0 (forest_of-bytes n paints paints_are) trees_size
      (omega (arith, layers-least (forest_of paints), trees_size))

  boxes-bytes : AreBytes (forest_bytes 0 (forest_of boxes))
  boxes-bytes =
      forest-bytes (forest_of boxes) 0 (forest_of-bytes n boxes (boxes-of_bytes n boxes boxes_are))
      (omega (arith, boxes_size)) (omega (arith, layers-least (forest_of boxes), boxes_size))

  lists-are-bytes : AreBytes (paint_lists layers paints boxes w)
  lists-are-bytes =
      below-append 256 _ _ roots-bytes (below-append 256 _ _ places-bytes (below-append 256 _ _ trees-bytes
      (below-append 256 _ _ box-list-bytes (below-append 256 _ _ boxes-bytes
      (below-append 256 w.index_map w.store store_is.index_map store_is.store)))))

  pub table-bytes : AreBytes (table_of_lists layers paints boxes w)
  table-bytes =
      let first = layer_header 1 34 layers in
      let second = paint_header layers paints boxes w in
      below-append 256 (first ++ second ++ layer_lists layers) (paint_lists layers paints boxes w)
      (below-append 256 (first ++ second) (layer_lists layers)
      (below-append 256 first second
      (header-bytes 1 34 layers (omega arith) (omega (arith, count, low)) (omega (arith, count, low)) total)
      paint-header-bytes)
      (lists-bytes n layers layers_are (omega (arith, low)) total))
      lists-are-bytes

-- how many bytes paints have
few-bytes : (n : ℕ) (x : ℕ → Colour) → colours_have_room n x ≡ true
    → sum_said tree_size (listed (λ g. (x g).paint) 0 n) < 16777216
unfolding colours_have_room MAX_BYTES
few-bytes n x room =
    let all = sum_below (λ g. colour_size (x g)) n in
    let most = leb-true all 16777215 (and_parts _ (leb all 16777215) room).1 in
    let less =
    sum-less (λ g. colour_size (x g)) (λ g. option_map_or tree_size (x g).paint 0) n (λ g l. omega arith) in
    omega (arith, most, less, listed-sum tree_size (λ g. (x g).paint) n)

some-layers : (n : ℕ) (x : ℕ → Colour) → colours_have_room n x ≡ true
    → layers_have_room n (λ g. (x g).layers) ≡ true
unfolding colours_have_room
some-layers n x room = (and_parts _ (leb (sum_below (λ g. colour_size (x g)) n) MAX_BYTES) room).0

paint-table-bytes : (n : ℕ) (w : Store) (x : ℕ → Colour) → n < 65536 → StoreOfBytes w
    → ((g : ℕ) → ColourOfBytes n g (x g)) → colours_have_room n x ≡ true → AreBytes (paint_table n w x)
unfolding paint_table
paint-table-bytes n w x low store of room =
    table-bytes n (listed (λ g. (x g).layers) 0 n) (listed (λ g. (x g).paint) 0 n) (listed (λ g. (x g).box) 0 n) w low
    (listed-all Small (λ g. (x g).layers) (λ g. small-layers g (x g).layers (layers-of_bytes n g (x g) (of g))) 0 n n
    (omega arith))
    (listed-all TreeOfBytes (λ g. (x g).paint) (λ g. paint-of_bytes n g (x g) (of g)) 0 n n (omega arith))
    (listed-all SmallBox (λ g. (x g).box) (λ g. box-of_bytes n g (x g) (of g)) 0 n n (omega arith)) store
    (listed-count (λ g. (x g).layers) 0 n) (listed-count (λ g. (x g).paint) 0 n)
    (listed-count (λ g. (x g).box) 0 n)
    (few-layers n (λ g. (x g).layers) (some-layers n x room))
    (few-bytes n x room)

pub written_bytes : WrittenAreBytes
written_bytes n low = record {
  layers = λ x of room. layer-table-bytes n x low of room;
  colours = λ w x store of room. paint-table-bytes n w x low store of room;
}

-- what varies in a table of bytes
take-short : (k : ℕ) (xs : List ℕ) → length (take k xs) ≤ length xs
take-short zero xs = omega arith
take-short (suc k) [] = omega arith
take-short (suc k) (x ∷ xs) = omega (arith, take-short k xs)

drop-short : (k : ℕ) (xs : List ℕ) → length (drop k xs) ≤ length xs
drop-short zero xs = omega arith
drop-short (suc k) [] = omega arith
drop-short (suc k) (x ∷ xs) = omega (arith, drop-short k xs)

-- bytes of a table, no more than it has
abbrev BytesOf : List ℕ → List ℕ → Type 0
BytesOf t m = AreBytes m × (length m ≤ length t)

either-bytes : (t m : List ℕ) (b : Bool) → BytesOf t m → BytesOf t (cond b [] m)
either-bytes t m true is = (tt, omega arith)
either-bytes t m false is = is

front-bytes : (t : List ℕ) (k s : ℕ) (b : Bool) → AreBytes t → BytesOf t (cond b (take s (drop k t)) [])
front-bytes t k s true are =
    (below-take 256 s (drop k t) (below-drop 256 k t are), omega (arith, take-short s (drop k t), drop-short k t))
front-bytes t k s false are = (tt, omega arith)

map-bytes : (t : List ℕ) (k : ℕ) → AreBytes t → BytesOf t (index_map_in (drop k t))
unfolding index_map_in
map-bytes t k are =
    front-bytes t k (index_map_size (drop k t)) (leb (index_map_size (drop k t)) (length (drop k t))) are

piece-bytes : (t : List ℕ) (k : ℕ) → AreBytes t → BytesOf t (store_in (drop k t))
unfolding store_in
piece-bytes t k are =
    let b = drop k t in
    front-bytes t k (store_end b) (eqb (u16_at b 0) 1 && not (eqb (u32_at b 2) 0) && leb (store_end b) (length b)) are

pub store-bytes : (t : List ℕ) → AreBytes t → length t < 2147483648 → StoreOfBytes (store_of t)
unfolding store_of
store-bytes t are low =
    let map_is =
    either-bytes t (index_map_in (drop (index_map_offset t) t)) (eqb (index_map_offset t) 0)
    (map-bytes t (index_map_offset t) are) in
    let store_is =
    either-bytes t (store_in (drop (store_offset t) t)) (eqb (store_offset t) 0)
    (piece-bytes t (store_offset t) are) in
    record { index_map = map_is.0; store = store_is.0; size = omega (arith, map_is.1, low) }

-- nothing is said by a table without a byte
pub none-of_bytes : (n g : ℕ) → ColourOfBytes n g (record { layers = None; paint = None; box = None })
unfolding layers_at bases_of base_count paint_at box_at roots_of clips_of base_list_offset clip_list_offset u16_at
    u32_at
none-of_bytes n g = ([], tt, refl)

pub no_layers-of_bytes : (g : ℕ) → LayersOfBytes g None
unfolding layers_at bases_of base_count u16_at
no_layers-of_bytes g = ([], tt, refl)
