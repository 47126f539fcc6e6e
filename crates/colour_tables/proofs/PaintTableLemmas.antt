-- A table in which layers, paints and clip boxes of glyphs are written.
use Rattle.std.proofs.Common.{◌≡◌, ℕ, zero, suc, ◌+◌, ◌<◌, ◌≤◌, Bool, true, false, cond, eqb}
use Rattle.std.proofs.Common.{List, [], ◌∷◌, ◌++◌, length, drop, map, replicate, Option, None, Some}
use Rattle.std.proofs.Common.{refl, ap, sym, ◌∙◌, arith, append-nil, length-append}
use Rattle.std.proofs.Math.Seq.{drop-append_seam}
use Rattle.std.proofs.lemmas.Bool.{and_from, cond-false, cond-true, ne_eqb}
use Rattle.sfnt_bytes.specs.Number.{u16_at, u32_at}
use Rattle.colour_tables.specs.ListedGlyphs.{listed, said_of, with_glyph}
use Rattle.colour_tables.specs.Laws.{HasLayersOf, IsRead, IsStored, PaintsAreReadBack}
use Rattle.colour_tables.specs.MadeLayers.{base_rows, layer_header, layer_lists, layer_rows, offset_of}
use Rattle.colour_tables.specs.MadePaints.{base_list, base_place, boxes_place, clip_list, clips_place, forest_bytes}
use Rattle.colour_tables.specs.MadePaints.{forest_layers, forest_of, forest_places, layer_list, layers_place}
use Rattle.colour_tables.specs.MadePaints.{list_size}
use Rattle.colour_tables.specs.MadePaints.{map_place, store_place}
use Rattle.colour_tables.specs.MadePaints.{paint_header, paint_lists, paint_table, paints_place, rooted}
use Rattle.colour_tables.specs.MadePaints.{table_of_lists}
use Rattle.colour_tables.specs.PaintLists.{Colour, are_clips, are_roots, base_list_offset, box_at, clip_list_offset}
use Rattle.colour_tables.specs.PaintLists.{clips_of, forest_size}
use Rattle.colour_tables.specs.PaintLists.{has_paint_lists, layer_list_offset, layer_places_of, paint_at, roots_of}
use Rattle.colour_tables.specs.PaintLists.{tree_in}
use Rattle.colour_tables.specs.Paints.{MAX_DEPTH, Tree}
use Rattle.colour_tables.specs.Stores.{Store, index_map_in, index_map_offset, store_in, store_of, store_offset}
use Rattle.colour_tables.specs.declared.layer.Layer.{Layer}
use Rattle.colour_tables.specs.declared.shape.Kind.{Kind}
use Rattle.colour_tables.specs.declared.shape.Kind.TheVariants.{ClipBox, Paint}
use Rattle.colour_tables.proofs.ForestLemmas.{bytes-long, next, places-long, reads}
use Rattle.colour_tables.proofs.FormedLemmas.{AreFormed, IsFormed, all-formed, boxes-places, tree-formed}
use Rattle.colour_tables.proofs.GlyphLemmas.{Ascends, listed-ascends, said-listed}
use Rattle.colour_tables.proofs.LayerLemmas.{bases_size, layers_size}
use Rattle.colour_tables.proofs.LayerReadLemmas.{long, offset-some, read_back}
use Rattle.colour_tables.proofs.StoreLemmas.{map-again, store-again}
use Rattle.colour_tables.proofs.PaintListLemmas.{Above, RootsAbove, above-places, base-size, clip-list-size, clip_of}
use Rattle.colour_tables.proofs.PaintListLemmas.{layer-list-size, rooted-long, some-size}
use Rattle.colour_tables.proofs.PaintReadLemmas.{ReadsIn, above-some, base-list-has, base-roots, box-said, clip-format}
use Rattle.colour_tables.proofs.PaintReadLemmas.{clip-list-has, clips-good, layer-list-has, layers-places, list-clips}
use Rattle.colour_tables.proofs.PaintReadLemmas.{paint-said, rooted-some, roots-good}

-- a tree that is read is formed
formed-read : (n : ℕ) (k : Kind) (t : List ℕ) (at : ℕ) (tree : Tree) → tree_in n t k at ≡ Some tree
    → IsFormed n MAX_DEPTH k tree
unfolding tree_in
formed-read n k t at tree e = tree-formed n t (layer_places_of t) MAX_DEPTH at k tree e

-- what varies is read from somewhere
abbrev Source : (List ℕ → List ℕ) → List ℕ → Type 0
Source piece_in m = 0 < length m → (b : List ℕ) × (piece_in b ≡ m)

source-by : (piece_in : List ℕ → List ℕ) (t m : List ℕ) (at : ℕ) (none : Bool)
    → cond none [] (piece_in (drop at t)) ≡ m → Source piece_in m
source-by piece_in t m at true e some = absurd (omega (arith, some, ap length e))
source-by piece_in t m at false e some = (drop at t, e)

source-map : (w : Store) → IsStored w → Source index_map_in w.index_map
unfolding store_of
source-map w stored =
    source-by index_map_in stored.0 w.index_map (index_map_offset stored.0) (eqb (index_map_offset stored.0) 0)
    (ap (λ (s : Store). s.index_map) stored.1)

source-store : (w : Store) → IsStored w → Source store_in w.store
unfolding store_of
source-store w stored =
    source-by store_in stored.0 w.store (store_offset stored.0) (eqb (store_offset stored.0) 0)
    (ap (λ (s : Store). s.store) stored.1)

-- a piece that stands at a place of a table is read there
piece-is : (piece_in : List ℕ → List ℕ)
    → ((b z : List ℕ) → 0 < length (piece_in b) → piece_in (piece_in b ++ z) ≡ piece_in b)
    → (t : List ℕ) (place : ℕ) (z m : List ℕ) (offset : ℕ) → offset ≡ offset_of (length m) place → 0 < place
    → drop place t ≡ m ++ z → Source piece_in m → cond (eqb offset 0) [] (piece_in (drop offset t)) ≡ m
piece-is piece_in again t place z [] offset e some there source =
    cond-true (eqb offset 0) _ _ (ap (λ (k : ℕ). eqb k 0) e)
piece-is piece_in again t place z (x ∷ xs) offset e some there source =
    let m = x ∷ xs in
    let from = source (omega arith) in
    let at = e ∙ offset-some (length m) place (omega arith) in
    let size = ap length from.1 in
    ap (λ (k : ℕ). cond (eqb k 0) [] (piece_in (drop k t))) at
    ∙ cond-false (eqb place 0) _ _ (ne_eqb place 0 (λ e. omega (arith, e, some)))
    ∙ ap piece_in (there ∙ ap (λ (b : List ℕ). b ++ z) (sym from.1))
    ∙ again from.0 z (omega (arith, size)) ∙ from.1

-- the table of lists of layers, paints and clip boxes
module _ (n : ℕ) (layers : List (ℕ × List Layer)) (paints boxes : List (ℕ × Tree)) (w : Store)
    (paints_are : AreFormed n MAX_DEPTH Paint paints) (boxes_are : AreFormed n MAX_DEPTH ClipBox boxes)
    (in_order : Ascends 0 n paints) (boxes_in_order : Ascends 0 n boxes) where
  abbrev t : List ℕ
  t = table_of_lists layers paints boxes w

  abbrev at_base : ℕ
  at_base = base_place layers

  abbrev at_clips : ℕ
  at_clips = clips_place layers paints

  abbrev at_layers : ℕ
  at_layers = layers_place layers paints

  abbrev at_paints : ℕ
  at_paints = paints_place layers paints

  abbrev at_boxes : ℕ
  at_boxes = boxes_place layers paints boxes

  abbrev roots : List (ℕ × ℕ)
  roots = rooted at_paints paints

  abbrev clips : List (ℕ × ℕ)
  clips = rooted at_boxes boxes

  abbrev places : List ℕ
  places = forest_places at_paints (forest_of paints)

  abbrev trees : List ℕ
  trees = forest_bytes 0 (forest_of paints)

  abbrev more_trees : List ℕ
  more_trees = forest_bytes 0 (forest_of boxes)

  abbrev at_map : ℕ
  at_map = map_place layers paints boxes

  abbrev at_store : ℕ
  at_store = store_place layers paints boxes w

  abbrev varying : List ℕ
  varying = w.index_map ++ w.store

  abbrev after_list : List ℕ
  after_list = more_trees ++ varying

  abbrev after_paints : List ℕ
  after_paints = clip_list at_clips clips ++ after_list

  abbrev after_layers : List ℕ
  after_layers = trees ++ after_paints

  abbrev after_base : List ℕ
  after_base = layer_list at_layers places ++ after_layers

  base-there : drop at_base t ≡ base_list at_base roots ++ after_base
  base-there =
      let header = layer_header 1 34 layers ++ paint_header layers paints boxes w in
      let front = header ++ layer_lists layers in
      let size : length front ≡ at_base =
      omega (
        arith,
        length-append header (layer_lists layers),
        length-append (base_rows 0 layers) (layer_rows layers),
        bases_size 0 layers,
        layers_size layers,
      ) in
      ap (λ (k : ℕ). drop k t) (sym size) ∙ drop-append_seam front (paint_lists layers paints boxes w)

  layers-there : drop at_layers t ≡ layer_list at_layers places ++ after_layers
  layers-there =
      next t (base_list at_base roots) after_base at_base (list_size 0 6 (length paints)) base-there
      (base-size at_base roots ∙ ap (list_size 0 6) (rooted-long at_paints paints))

  paints-there : drop at_paints t ≡ trees ++ after_paints
  paints-there =
      next t (layer_list at_layers places) after_layers at_layers (list_size 0 4 (forest_layers (forest_of paints)))
      layers-there
      (layer-list-size at_layers places ∙ ap (list_size 0 4) (places-long at_paints (forest_of paints)))

  clips-there : drop at_clips t ≡ clip_list at_clips clips ++ after_list
  clips-there =
      next t trees after_paints at_paints (forest_size (forest_of paints)) paints-there
      (bytes-long n MAX_DEPTH (replicate (length paints) Paint) (forest_of paints) 0
      (all-formed n MAX_DEPTH Paint paints paints_are))

  boxes-there : drop at_boxes t ≡ more_trees ++ varying
  boxes-there =
      next t (clip_list at_clips clips) after_list at_clips (list_size 1 7 (length boxes)) clips-there
      (clip-list-size at_clips clips ∙ ap (list_size 1 7) (rooted-long at_boxes boxes))

  map-there : drop at_map t ≡ w.index_map ++ w.store
  map-there =
      next t more_trees varying at_boxes (forest_size (forest_of boxes)) boxes-there
      (bytes-long n MAX_DEPTH (replicate (length boxes) ClipBox) (forest_of boxes) 0
      (all-formed n MAX_DEPTH ClipBox boxes boxes_are))

  store-there : drop at_store t ≡ w.store ++ []
  store-there =
      next t w.index_map w.store at_map (length w.index_map) map-there refl ∙ sym (append-nil w.store)

  -- offsets
  base-offset : base_list_offset t ≡ offset_of (length roots) at_base
  unfolding base_list_offset u32_at
  base-offset =
      long (offset_of (length paints) at_base)
      ∙ ap (λ (k : ℕ). offset_of k at_base) (sym (rooted-long at_paints paints))

  layers-offset : layer_list_offset t ≡ offset_of (length places) at_layers
  unfolding layer_list_offset u32_at
  layers-offset =
      long (offset_of (forest_layers (forest_of paints)) at_layers)
      ∙ ap (λ (k : ℕ). offset_of k at_layers) (sym (places-long at_paints (forest_of paints)))

  clips-offset : clip_list_offset t ≡ offset_of (length clips) at_clips
  unfolding clip_list_offset u32_at
  clips-offset =
      long (offset_of (length boxes) at_clips)
      ∙ ap (λ (k : ℕ). offset_of k at_clips) (sym (rooted-long at_boxes boxes))

  -- what is listed stands after its list
  roots-above : RootsAbove at_base roots
  roots-above =
      rooted-some at_base at_paints paints
      (λ some. omega (arith, some-size 0 6 (length paints) some))

  clips-above : RootsAbove at_clips clips
  clips-above =
      rooted-some at_clips at_boxes boxes
      (λ some. omega (arith, some-size 1 7 (length boxes) some))

  places-above : Above at_layers places
  places-above =
      above-some at_layers places
      (λ some. above-places at_layers at_paints (forest_of paints)
      (let count = places-long at_paints (forest_of paints) in
      omega (arith, some-size 0 4 (forest_layers (forest_of paints)) (omega (arith, some, count)))))

  -- what is read
  roots-are : roots_of t ≡ roots
  roots-are = base-roots roots at_base t after_base base-offset (omega arith) roots-above base-there

  places-are : layer_places_of t ≡ places
  places-are = layers-places places at_layers t after_layers layers-offset (omega arith) places-above layers-there

  clips-are : clips_of t ≡ map clip_of clips
  clips-are = list-clips clips at_clips t after_list clips-offset (omega arith) clips-above clips-there

  paints-read : ReadsIn n t at_paints Paint paints
  paints-read =
      reads n t (layer_places_of t) (forest_of paints) MAX_DEPTH at_paints 0 (replicate (length paints) Paint)
      after_paints
      []
      (all-formed n MAX_DEPTH Paint paints paints_are) (omega arith) paints-there
      (places-are ∙ sym (append-nil places))

  boxes-read : ReadsIn n t at_boxes ClipBox boxes
  boxes-read =
      reads n t (layer_places_of t) (forest_of boxes) MAX_DEPTH at_boxes 0 (replicate (length boxes) ClipBox) varying
      (layer_places_of t) (all-formed n MAX_DEPTH ClipBox boxes boxes_are) (omega arith)
      boxes-there
      (ap (λ (ps : List ℕ). ps ++ layer_places_of t) (sym (boxes-places n MAX_DEPTH at_boxes boxes boxes_are)))

  pub lists-are : has_paint_lists n t ≡ true
  unfolding has_paint_lists
  lists-are =
      and_from _ _ (and_from _ _ (and_from _ _ (and_from _ _ (and_from _ _
      (base-list-has roots at_base t after_base base-offset (omega arith) base-there)
      (layer-list-has places at_layers t after_layers layers-offset (omega arith) layers-there))
      (clip-list-has clips at_clips t after_list clips-offset (omega arith) clips-there))
      (clip-format clips at_clips t after_list clips-offset clips-there))
      (ap (are_roots n t 0) roots-are ∙ roots-good n t 0 at_paints paints in_order paints-read))
      (ap (are_clips n t 0) clips-are ∙ clips-good n t 0 at_boxes boxes boxes_in_order boxes-read)

  pub paints-said : (g : ℕ) → paint_at n t g ≡ said_of g paints
  paints-said g = paint-said n t at_paints g paints roots-are paints-read

  pub boxes-said : (g : ℕ) → box_at n t g ≡ said_of g boxes
  boxes-said g = box-said n t at_boxes g boxes clips-are boxes-read

  -- what varies
  map-offset : index_map_offset t ≡ offset_of (length w.index_map) at_map
  unfolding index_map_offset u32_at
  map-offset = long (offset_of (length w.index_map) at_map)

  variations-offset : store_offset t ≡ offset_of (length w.store) at_store
  unfolding store_offset u32_at
  variations-offset = long (offset_of (length w.store) at_store)

  pub store-is : IsStored w → store_of t ≡ w
  unfolding store_of
  store-is stored =
      let map_is =
      piece-is index_map_in map-again t at_map w.store w.index_map (index_map_offset t) map-offset (omega arith)
      map-there
      (source-map w stored) in
      let own_is =
      piece-is store_in store-again t at_store [] w.store (store_offset t) variations-offset (omega arith) store-there
      (source-store w stored) in
      λ i. record { index_map = map_is i; store = own_is i }

-- the trees that are listed are of a kind
pub listed-formed : (n : ℕ) (k : Kind) (said : ℕ → Option Tree) → ((g : ℕ) → IsRead n k (said g)) → (a m : ℕ)
    → AreFormed n MAX_DEPTH k (listed said a m)
listed-formed n k said are a zero = tt
listed-formed n k said are a (suc m) =
    formed-with-glyph (said a) (are a) (listed said (a + 1) m) (listed-formed n k said are (a + 1) m)
  where
    formed-with-glyph : (o : Option Tree) → IsRead n k o → (es : List (ℕ × Tree)) → AreFormed n MAX_DEPTH k es
        → AreFormed n MAX_DEPTH k (with_glyph a o es)
    formed-with-glyph None is es rest = rest
    formed-with-glyph (Some tree) is es rest = (formed-read n k is.0 is.1 tree is.2, rest)

-- the layers of the table
layers-read : (n : ℕ) (w : Store) (x : ℕ → Colour) → HasLayersOf n (λ g. (x g).layers) (paint_table n w x)
unfolding paint_table
layers-read n w x =
    let layers = listed (λ g. (x g).layers) 0 n in
    let paints = listed (λ g. (x g).paint) 0 n in
    let boxes = listed (λ g. (x g).box) 0 n in
    read_back n 1 (λ g. (x g).layers) (paint_header layers paints boxes w) (paint_lists layers paints boxes w)

table-version : (layers : List (ℕ × List Layer)) (paints boxes : List (ℕ × Tree)) (w : Store)
    → u16_at (table_of_lists layers paints boxes w) 0 ≡ 1
unfolding u16_at
table-version layers paints boxes w = refl

table-long : (layers : List (ℕ × List Layer)) (paints boxes : List (ℕ × Tree)) (w : Store)
    → 34 ≤ length (table_of_lists layers paints boxes w)
table-long layers paints boxes w =
    let header = layer_header 1 34 layers ++ paint_header layers paints boxes w in
    omega (
      arith,
      length-append header (layer_lists layers),
      length-append (header ++ layer_lists layers) (paint_lists layers paints boxes w),
    )

pub paints_back : PaintsAreReadBack
unfolding paint_table
paints_back n w x stored are =
    let layers = listed (λ g. (x g).layers) 0 n in
    let paints = listed (λ g. (x g).paint) 0 n in
    let boxes = listed (λ g. (x g).box) 0 n in
    let paints_are = listed-formed n Paint (λ g. (x g).paint) (λ g. (are g).0) 0 n in
    let boxes_are = listed-formed n ClipBox (λ g. (x g).box) (λ g. (are g).1) 0 n in
    let order = listed-ascends (λ g. (x g).paint) 0 n n (omega arith) in
    let box_order = listed-ascends (λ g. (x g).box) 0 n n (omega arith) in
    let has = layers-read n w x in
    record {
      version = table-version layers paints boxes w;
      header = table-long layers paints boxes w;
      layer_lists = has.lists;
      paint_lists = lists-are n layers paints boxes w paints_are boxes_are order box_order;
      layers = has.layers;
      paint = λ g l.
          paints-said n layers paints boxes w paints_are boxes_are order box_order g
          ∙ said-listed (λ g. (x g).paint) g 0 n (omega arith) (omega (arith, l));
      box = λ g l.
          boxes-said n layers paints boxes w paints_are boxes_are order box_order g
          ∙ said-listed (λ g. (x g).box) g 0 n (omega arith) (omega (arith, l));
      store = store-is n layers paints boxes w paints_are boxes_are order box_order stored;
    }
