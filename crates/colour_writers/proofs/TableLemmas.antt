-- A table of version 1 that is written, piece by piece.
use Rattle.std.proofs.Common.{◌≡◌, ℕ, ◌+◌, ◌*◌, ◌<◌, ◌≤◌, List, [], ◌∷◌, ◌++◌, length, sym, ap}
use Rattle.std.proofs.Common.{◌∙◌, arith}
use Rattle.colour_tables.specs.Laws.{AreRead}
use Rattle.colour_tables.specs.MadeLayers.{base_rows, bytes_of_u32, layer_header, layer_rows, offset_of}
use Rattle.colour_tables.specs.MadePaints.{base_list, clip_list, forest_bytes, forest_layers, forest_of, forest_places}
use Rattle.colour_tables.specs.MadePaints.{layer_list, list_size, paint_header, paint_lists, paint_table, rooted}
use Rattle.colour_tables.specs.PaintLists.{Colour, forest_size}
use Rattle.colour_tables.specs.Paints.{MAX_DEPTH, Tree}
use Rattle.colour_tables.specs.Stores.{Store}
use Rattle.colour_tables.specs.declared.shape.Kind.TheVariants.{ClipBox}
use Rattle.colour_tables.proofs.ByteLemmas.{listed-count}
use Rattle.colour_tables.proofs.FormedLemmas.{AreFormed, box-size}
use Rattle.colour_tables.proofs.PaintTableLemmas.{listed-formed}
use Rattle.colour_writers.specs.Inside.{header_of, paint_header_of}
use Rattle.colour_writers.specs.Plans.{IsPlanOf, boxes_of, front_bytes, layers_of, paints_of}
use Rattle.colour_writers.specs.declared.places.Places.{Places}
use Rattle.colour_writers.specs.declared.plans.Plan.{Plan}
use Rattle.colour_writers.proofs.PlanLemmas.{list_short}
use Rattle.colour_writers.proofs.TreeListLemmas.{both_put}

-- clip boxes are small
boxes_small : (n d : ℕ) (es : List (ℕ × Tree)) → AreFormed n d ClipBox es
    → forest_size (forest_of es) ≤ 13 * length es
boxes_small n d [] are = omega arith
boxes_small n d (e ∷ es) are = omega (arith, box-size n d e.1 are.0, boxes_small n d es are.1)

-- the order of places
pub record IsOrdered (n : ℕ) (x : ℕ → Colour) (plan : Plan) : Type 0 where
  pub bases : plan.at.bases ≤ plan.at.paints
  pub layers : plan.at.layers ≤ plan.at.paints
  pub paints : plan.at.paints < 2147483648
  pub clips : plan.at.clips ≤ plan.at.boxes
  pub boxes : plan.at.boxes < 2147483648
  pub near : plan.at.boxes + forest_size (forest_of (boxes_of n x)) < plan.at.clips + 16777216

pub ordered : (n : ℕ) (x : ℕ → Colour) (plan : Plan) → n < 65536 → AreRead n x → IsPlanOf n x plan
    → IsOrdered n x plan
ordered n x plan low read is =
    let layers : plan.at.layers ≡ plan.at.bases + list_size 0 6 (length (paints_of n x)) =
    is.at_layers ∙ sym (λ i. is.at_bases i + list_size 0 6 (length (paints_of n x))) in
    let paints : plan.at.paints ≡ plan.at.layers + list_size 0 4 (forest_layers (forest_of (paints_of n x))) =
    is.at_paints ∙ sym (λ i. is.at_layers i + list_size 0 4 (forest_layers (forest_of (paints_of n x)))) in
    let clips : plan.at.clips ≡ plan.at.paints + forest_size (forest_of (paints_of n x)) =
    is.at_clips ∙ sym (λ i. is.at_paints i + forest_size (forest_of (paints_of n x))) in
    let boxes : plan.at.boxes ≡ plan.at.clips + list_size 1 7 (length (boxes_of n x)) =
    is.at_boxes ∙ sym (λ i. is.at_clips i + list_size 1 7 (length (boxes_of n x))) in
    let map : plan.at.map ≡ plan.at.boxes + forest_size (forest_of (boxes_of n x)) =
    is.at_map ∙ sym (λ i. is.at_boxes i + forest_size (forest_of (boxes_of n x))) in
    record {
      bases = omega (arith, layers, paints);
      layers = omega (arith, paints);
      paints = omega (arith, clips, boxes, map, is.small);
      clips = omega (arith, boxes);
      boxes = omega (arith, map, is.small);
      near = omega (
        arith,
        boxes,
        list_short 1 7 (length (boxes_of n x)),
        listed-count (λ g. (x g).box) 0 n,
        low,
        boxes_small n MAX_DEPTH (boxes_of n x) (listed-formed n ClipBox (λ g. (x g).box) (λ g. (read g).1) 0 n),
      );
    }

-- the header
header_is : (n : ℕ) (x : ℕ → Colour) (plan : Plan) → IsPlanOf n x plan
    → header_of 1 34 plan.layers.glyphs plan.layers.layers ≡ layer_header 1 34 (layers_of n x)
unfolding header_of
header_is n x plan is = λ i. header_of 1 34 (is.glyphs i) (is.layers i)

paint_header_is : (n : ℕ) (x : ℕ → Colour) (plan : Plan) (w : Store) → IsPlanOf n x plan
    → paint_header_of plan.paints.glyphs plan.paints.layers plan.boxes.glyphs (length w.index_map) (length w.store)
    plan.at
    ≡ paint_header (layers_of n x) (paints_of n x) (boxes_of n x) w
unfolding paint_header_of
paint_header_is n x plan w is =
    λ i. bytes_of_u32 (offset_of (is.paints i) (is.at_bases i))
    ++ bytes_of_u32 (offset_of (is.places i) (is.at_layers i))
    ++ bytes_of_u32 (offset_of (is.boxes i) (is.at_clips i))
    ++ bytes_of_u32 (offset_of (length w.index_map) (is.at_map i))
    ++ bytes_of_u32 (offset_of (length w.store) (is.at_map i + length w.index_map))

pub front_put : (n : ℕ) (x : ℕ → Colour) (plan : Plan) (w : Store) (m0 m1 m2 m3 m4 : List ℕ) → IsPlanOf n x plan
    → m1 ≡ m0 ++ header_of 1 34 plan.layers.glyphs plan.layers.layers
    → m2 ≡ m1 ++ paint_header_of plan.paints.glyphs plan.paints.layers plan.boxes.glyphs (length w.index_map)
    (length w.store) plan.at
    → m3 ≡ m2 ++ base_rows 0 (layers_of n x) → m4 ≡ m3 ++ layer_rows (layers_of n x)
    → m4 ≡ m0 ++ front_bytes n x w
front_put n x plan w m0 m1 m2 m3 m4 is a b c d =
    let one = header_of 1 34 plan.layers.glyphs plan.layers.layers in
    let two =
    paint_header_of plan.paints.glyphs plan.paints.layers plan.boxes.glyphs (length w.index_map) (length w.store)
    plan.at in
    let rows = base_rows 0 (layers_of n x) ++ layer_rows (layers_of n x) in
    both_put m0 m2 m4 (one ++ two) rows (both_put m0 m1 m2 one two a b)
    (both_put m2 m3 m4 (base_rows 0 (layers_of n x)) (layer_rows (layers_of n x)) c d)
    ∙ (λ i. m0 ++ (header_is n x plan is i ++ paint_header_is n x plan w is i ++ rows))

-- the lists
pub lists_put : (n : ℕ) (x : ℕ → Colour) (plan : Plan) (w : Store) (m0 m1 m2 m3 m4 m5 m6 m7 : List ℕ)
    → IsPlanOf n x plan → m1 ≡ m0 ++ base_list plan.at.bases (rooted plan.at.paints (paints_of n x))
    → m2 ≡ m1 ++ layer_list plan.at.layers (forest_places plan.at.paints (forest_of (paints_of n x)))
    → m3 ≡ m2 ++ forest_bytes 0 (forest_of (paints_of n x))
    → m4 ≡ m3 ++ clip_list plan.at.clips (rooted plan.at.boxes (boxes_of n x))
    → m5 ≡ m4 ++ forest_bytes 0 (forest_of (boxes_of n x)) → m6 ≡ m5 ++ w.index_map → m7 ≡ m6 ++ w.store
    → m7 ≡ m0 ++ paint_lists (layers_of n x) (paints_of n x) (boxes_of n x) w
lists_put n x plan w m0 m1 m2 m3 m4 m5 m6 m7 is a b c d e f h =
    let paints = paints_of n x in
    let boxes = boxes_of n x in
    let end = w.index_map ++ w.store in
    let box_bytes = forest_bytes 0 (forest_of boxes) ++ end in
    let clips = clip_list plan.at.clips (rooted plan.at.boxes boxes) ++ box_bytes in
    let paint_bytes = forest_bytes 0 (forest_of paints) ++ clips in
    let places = layer_list plan.at.layers (forest_places plan.at.paints (forest_of paints)) ++ paint_bytes in
    both_put m0 m1 m7 (base_list plan.at.bases (rooted plan.at.paints paints)) places a
    (both_put m1 m2 m7 (layer_list plan.at.layers (forest_places plan.at.paints (forest_of paints))) paint_bytes b
    (both_put m2 m3 m7 (forest_bytes 0 (forest_of paints)) clips c
    (both_put m3 m4 m7 (clip_list plan.at.clips (rooted plan.at.boxes boxes)) box_bytes d
    (both_put m4 m5 m7 (forest_bytes 0 (forest_of boxes)) end e (both_put m5 m6 m7 w.index_map w.store f h)))))
    ∙ (λ i. m0 ++ (base_list (is.at_bases i) (rooted (is.at_paints i) paints)
    ++ (layer_list (is.at_layers i) (forest_places (is.at_paints i) (forest_of paints))
    ++ (forest_bytes 0 (forest_of paints)
    ++ (clip_list (is.at_clips i) (rooted (is.at_boxes i) boxes) ++ box_bytes)))))

pub table_put : (n : ℕ) (x : ℕ → Colour) (w : Store) (m0 m1 m2 : List ℕ) → m0 ≡ [] → m1 ≡ m0 ++ front_bytes n x w
    → m2 ≡ m1 ++ paint_lists (layers_of n x) (paints_of n x) (boxes_of n x) w → m2 ≡ paint_table n w x
unfolding paint_table
table_put n x w m0 m1 m2 e a b =
    b
    ∙ ap (λ (m : List ℕ). m ++ paint_lists (layers_of n x) (paints_of n x) (boxes_of n x) w)
    (a ∙ ap (λ (m : List ℕ). m ++ front_bytes n x w) e)

pub header_put : (m0 m1 m2 m3 m4 m5 : List ℕ) (r1 r2 r3 r4 r5 paints layers boxes map store : ℕ) (at : Places)
    → m1 ≡ m0 ++ bytes_of_u32 r1 → m2 ≡ m1 ++ bytes_of_u32 r2 → m3 ≡ m2 ++ bytes_of_u32 r3
    → m4 ≡ m3 ++ bytes_of_u32 r4 → m5 ≡ m4 ++ bytes_of_u32 r5 → r1 ≡ offset_of paints at.bases
    → r2 ≡ offset_of layers at.layers → r3 ≡ offset_of boxes at.clips → r4 ≡ offset_of map at.map
    → r5 ≡ offset_of store (at.map + map) → m5 ≡ m0 ++ paint_header_of paints layers boxes map store at
unfolding paint_header_of
header_put m0 m1 m2 m3 m4 m5 r1 r2 r3 r4 r5 paints layers boxes map store at a b c d e p q r s t =
    let one = bytes_of_u32 r1 in
    let two = one ++ bytes_of_u32 r2 in
    let three = two ++ bytes_of_u32 r3 in
    both_put m0 m4 m5 (three ++ bytes_of_u32 r4) (bytes_of_u32 r5)
    (both_put m0 m3 m4 three (bytes_of_u32 r4) (both_put m0 m2 m3 two (bytes_of_u32 r3)
    (both_put m0 m1 m2 one (bytes_of_u32 r2) a b) c) d) e
    ∙ (λ i. m0 ++ (bytes_of_u32 (p i) ++ bytes_of_u32 (q i) ++ bytes_of_u32 (r i) ++ bytes_of_u32 (s i)
    ++ bytes_of_u32 (t i)))
