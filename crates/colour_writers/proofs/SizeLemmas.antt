-- How many bytes a table of version 1 has that is written.
use Rattle.std.proofs.Common.{◌≡◌, ℕ, ◌+◌, ◌≤◌, List, ◌++◌, length, length-append, replicate, ap, ◌∙◌, arith}
use Rattle.colour_tables.specs.Laws.{AreRead}
use Rattle.colour_tables.specs.MadeLayers.{base_rows, layer_header, layer_lists, layer_rows}
use Rattle.colour_tables.specs.MadePaints.{base_list, base_place, boxes_place, clip_list, clips_place, forest_bytes}
use Rattle.colour_tables.specs.MadePaints.{forest_layers, forest_of, forest_places, layer_list, layers_place, list_size}
use Rattle.colour_tables.specs.MadePaints.{map_place, paint_header, paint_lists, paint_table, paints_place, rooted}
use Rattle.colour_tables.specs.PaintLists.{Colour, forest_size}
use Rattle.colour_tables.specs.Paints.{MAX_DEPTH, Tree}
use Rattle.colour_tables.specs.Stores.{Store}
use Rattle.colour_tables.specs.declared.shape.Kind.{Kind}
use Rattle.colour_tables.specs.declared.shape.Kind.TheVariants.{ClipBox, Paint}
use Rattle.colour_tables.proofs.ForestLemmas.{bytes-long, places-long}
use Rattle.colour_tables.proofs.FormedLemmas.{AreFormed, all-formed}
use Rattle.colour_tables.proofs.LayerLemmas.{bases_size, layers_size}
use Rattle.colour_tables.proofs.PaintListLemmas.{base-size, clip-list-size, layer-list-size, rooted-long}
use Rattle.colour_tables.proofs.PaintTableLemmas.{listed-formed}
use Rattle.colour_writers.specs.Plans.{IsPlanOf, boxes_of, front_bytes, layers_of, paints_of}
use Rattle.colour_writers.specs.declared.plans.Plan.{Plan}

trees_size : (n : ℕ) (k : Kind) (es : List (ℕ × Tree)) → AreFormed n MAX_DEPTH k es
    → length (forest_bytes 0 (forest_of es)) ≡ forest_size (forest_of es)
trees_size n k es are =
    bytes-long n MAX_DEPTH (replicate (length es) k) (forest_of es) 0 (all-formed n MAX_DEPTH k es are)

front_size : (n : ℕ) (x : ℕ → Colour) (w : Store) → length (front_bytes n x w) ≡ base_place (layers_of n x)
front_size n x w =
    let es = layers_of n x in
    let header = layer_header 1 34 es ++ paint_header es (paints_of n x) (boxes_of n x) w in
    omega (
      arith,
      length-append header (layer_lists es),
      length-append (base_rows 0 es) (layer_rows es),
      bases_size 0 es,
      layers_size es,
    )

roots_size : (at place : ℕ) (es : List (ℕ × Tree)) → length (base_list at (rooted place es)) ≡ list_size 0 6 (length es)
roots_size at place es = base-size at (rooted place es) ∙ ap (list_size 0 6) (rooted-long place es)

clips_size : (at place : ℕ) (es : List (ℕ × Tree)) → length (clip_list at (rooted place es)) ≡ list_size 1 7 (length es)
clips_size at place es = clip-list-size at (rooted place es) ∙ ap (list_size 1 7) (rooted-long place es)

lists_size : (n : ℕ) (x : ℕ → Colour) (w : Store) → AreRead n x
    → base_place (layers_of n x) + length (paint_lists (layers_of n x) (paints_of n x) (boxes_of n x) w)
    ≡ map_place (layers_of n x) (paints_of n x) (boxes_of n x) + (length w.index_map + length w.store)
lists_size n x w read =
    let layers = layers_of n x in
    let paints = paints_of n x in
    let boxes = boxes_of n x in
    let one = base_list (base_place layers) (rooted (paints_place layers paints) paints) in
    let two = layer_list (layers_place layers paints) (forest_places (paints_place layers paints) (forest_of paints)) in
    let three = forest_bytes 0 (forest_of paints) in
    let four = clip_list (clips_place layers paints) (rooted (boxes_place layers paints boxes) boxes) in
    let five = forest_bytes 0 (forest_of boxes) in
    let end = w.index_map ++ w.store in
    let places : length two ≡ list_size 0 4 (forest_layers (forest_of paints)) =
    layer-list-size (layers_place layers paints) (forest_places (paints_place layers paints) (forest_of paints))
    ∙ ap (list_size 0 4) (places-long (paints_place layers paints) (forest_of paints)) in
    omega (
      arith,
      length-append one (two ++ (three ++ (four ++ (five ++ end)))),
      length-append two (three ++ (four ++ (five ++ end))),
      length-append three (four ++ (five ++ end)),
      length-append four (five ++ end),
      length-append five end,
      length-append w.index_map w.store,
      roots_size (base_place layers) (paints_place layers paints) paints,
      places,
      trees_size n Paint paints (listed-formed n Paint (λ g. (x g).paint) (λ g. (read g).0) 0 n),
      clips_size (clips_place layers paints) (boxes_place layers paints boxes) boxes,
      trees_size n ClipBox boxes (listed-formed n ClipBox (λ g. (x g).box) (λ g. (read g).1) 0 n),
    )

pub table_small : (n : ℕ) (x : ℕ → Colour) (w : Store) (plan : Plan) (bytes : List ℕ) → AreRead n x
    → IsPlanOf n x plan → bytes ≡ paint_table n w x → length bytes ≤ 100000000 + length w.index_map + length w.store
unfolding paint_table
table_small n x w plan bytes read is e =
    omega (
      arith,
      ap (λ (b : List ℕ). length b) e,
      length-append (front_bytes n x w) (paint_lists (layers_of n x) (paints_of n x) (boxes_of n x) w),
      front_size n x w,
      lists_size n x w read,
      is.at_map,
      is.small,
    )
