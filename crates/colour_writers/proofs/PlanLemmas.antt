-- A plan of a table of version 1.
use Rattle.std.proofs.Common.{◌≡◌, ℕ, zero, suc, ◌+◌, ◌*◌, ◌<◌, ◌≤◌, true, List, [], ◌∷◌, length, Option}
use Rattle.std.proofs.Common.{refl, ◌∙◌, arith, leb}
use Rattle.std.specs.Option.{option_map_or}
use Rattle.std.proofs.lemmas.Bool.{and_parts, leb-true}
use Rattle.colour_tables.specs.LayerLists.{MAX_LAYERS, are_layers, depth, layers_have_room}
use Rattle.colour_tables.specs.ListedGlyphs.{each_below, listed, sum_below}
use Rattle.colour_tables.specs.MadeLayers.{layer_total}
use Rattle.colour_tables.specs.MadePaints.{forest_layers, forest_of, list_size}
use Rattle.colour_tables.specs.PaintLists.{Colour, MAX_BYTES, colour_size, colours_have_room, forest_size, tree_size}
use Rattle.colour_tables.specs.Paints.{Tree}
use Rattle.colour_tables.specs.declared.layer.Layer.{Layer}
use Rattle.colour_tables.proofs.ByteLemmas.{listed-count, listed-sum, sum_said}
use Rattle.colour_tables.proofs.PaintListLemmas.{some-size}
use Rattle.colour_tables.proofs.TreeByteLemmas.{forest_of-size, layers-least}
use Rattle.colour_writers.specs.Inside.{ArePlaces}
use Rattle.colour_writers.specs.Plans.{IsPlanOf, boxes_of, layers_of, paints_of}
use Rattle.colour_writers.specs.declared.plans.Plan.{Plan}

-- sums
total_said : (es : List (ℕ × List Layer)) → layer_total es ≡ sum_said (λ ls. length ls) es
total_said [] = refl
total_said (e ∷ es) = omega (arith, total_said es)

pub total_below : (x : ℕ → Option (List Layer)) (n : ℕ)
    → layer_total (listed x 0 n) ≡ sum_below (λ g. depth (x g)) n
total_below x n = total_said (listed x 0 n) ∙ listed-sum (λ ls. length ls) x n

pub size_below : (x : ℕ → Option Tree) (n : ℕ)
    → forest_size (forest_of (listed x 0 n)) ≡ sum_below (λ g. option_map_or tree_size (x g) 0) n
size_below x n = forest_of-size (listed x 0 n) ∙ listed-sum tree_size x n

colour_below : (x : ℕ → Colour) (n : ℕ)
    → sum_below (λ g. colour_size (x g)) n
    ≡ 4 * sum_below (λ g. depth (x g).layers) n + sum_below (λ g. option_map_or tree_size (x g).paint 0) n
    + sum_below (λ g. option_map_or tree_size (x g).box 0) n
colour_below x zero = refl
colour_below x (suc n) = omega (arith, colour_below x n)

-- what has room
pub record HasRoom (n : ℕ) (x : ℕ → Colour) : Type 0 where
  pub few : layer_total (layers_of n x) < 65536
  pub size : 4 * layer_total (layers_of n x) + forest_size (forest_of (paints_of n x))
      + forest_size (forest_of (boxes_of n x)) < 16777216

few_layers : (n : ℕ) (x : ℕ → Option (List Layer)) → layers_have_room n x ≡ true
    → sum_below (λ g. depth (x g)) n ≤ 65535
unfolding layers_have_room MAX_LAYERS
few_layers n x t =
    leb-true (sum_below (λ g. depth (x g)) n) 65535
    (and_parts (each_below (λ g. are_layers n (x g)) n) (leb (sum_below (λ g. depth (x g)) n) 65535) t).1

pub layers_few : (n : ℕ) (x : ℕ → Option (List Layer)) → layers_have_room n x ≡ true → layer_total
    (listed x 0 n) < 65536
layers_few n x t = omega (arith, total_below x n, few_layers n x t)

pub has_room : (n : ℕ) (x : ℕ → Colour) → colours_have_room n x ≡ true → HasRoom n x
unfolding colours_have_room MAX_BYTES
has_room n x t =
    let both =
    and_parts (layers_have_room n (λ g. (x g).layers)) (leb (sum_below (λ g. colour_size (x g)) n) 16777215) t in
    record {
      few = layers_few n (λ g. (x g).layers) both.0;
      size = omega (
        arith,
        leb-true (sum_below (λ g. colour_size (x g)) n) 16777215 both.1,
        colour_below x n,
        total_below (λ g. (x g).layers) n,
        size_below (λ g. (x g).paint) n,
        size_below (λ g. (x g).box) n,
      );
    }

pub list_short : (before size count : ℕ) → list_size before size count ≤ before + 4 + size * count
list_short before size zero = omega arith
list_short before size (suc count) = omega (arith, some-size before size (suc count) (omega arith))

-- the plan
pub plan_is : (n : ℕ) (x : ℕ → Colour) (plan : Plan) → n < 65536 → colours_have_room n x ≡ true
    → plan.layers.glyphs ≡ length (layers_of n x) → plan.layers.layers ≡ layer_total (layers_of n x)
    → plan.paints.glyphs ≡ length (paints_of n x) → plan.paints.layers ≡ forest_layers (forest_of (paints_of n x))
    → plan.paints.bytes ≡ forest_size (forest_of (paints_of n x)) → plan.boxes.glyphs ≡ length (boxes_of n x)
    → plan.boxes.bytes ≡ forest_size (forest_of (boxes_of n x))
    → ArePlaces plan.layers.glyphs plan.layers.layers plan.paints.glyphs plan.paints.layers plan.paints.bytes
    plan.boxes.glyphs plan.boxes.bytes plan.at → IsPlanOf n x plan
plan_is n x plan low t eg el ep eq es eb ez are =
    let room = has_room n x t in
    let at_bases : plan.at.bases ≡ 34 + (6 * length (layers_of n x) + 4 * layer_total (layers_of n x)) =
    omega (arith, are.bases, eg, el) in
    let at_layers = are.layers ∙ (λ i. at_bases i + list_size 0 6 (ep i)) in
    let at_paints = are.paints ∙ (λ i. at_layers i + list_size 0 4 (eq i)) in
    let at_clips = are.clips ∙ (λ i. at_paints i + es i) in
    let at_boxes = are.boxes ∙ (λ i. at_clips i + list_size 1 7 (eb i)) in
    let at_map = are.map ∙ (λ i. at_boxes i + ez i) in
    record {
      glyphs = eg;
      layers = el;
      few = room.few;
      paints = ep;
      places = eq;
      boxes = eb;
      paint_size = omega (arith, room.size);
      box_size = omega (arith, room.size);
      at_bases = at_bases;
      at_layers = at_layers;
      at_paints = at_paints;
      at_clips = at_clips;
      at_boxes = at_boxes;
      at_map = at_map;
      small = omega (
        arith,
        are.bases,
        are.layers,
        are.paints,
        are.clips,
        are.boxes,
        are.map,
        eg,
        el,
        ep,
        eq,
        es,
        eb,
        ez,
        room.few,
        room.size,
        low,
        listed-count (λ g. (x g).layers) 0 n,
        listed-count (λ g. (x g).paint) 0 n,
        listed-count (λ g. (x g).box) 0 n,
        layers-least (forest_of (paints_of n x)),
        list_short 0 6 plan.paints.glyphs,
        list_short 0 4 plan.paints.layers,
        list_short 1 7 plan.boxes.glyphs,
      );
    }
