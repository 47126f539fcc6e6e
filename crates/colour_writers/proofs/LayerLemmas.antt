-- The lists of layers that are written, one glyph at a time.
use Rattle.std.proofs.Common.{◌≡◌, ℕ, zero, suc, ◌+◌, ◌-◌, ◌<◌, ◌≤◌, true, false, leb, ◌&&◌, List, ◌++◌}
use Rattle.std.proofs.Common.{flat_map, Option, None, Some, refl, sym, ap, ◌∙◌, arith, append_assoc}
use Rattle.std.proofs.Common.{subst, inl, inr}
use Rattle.std.proofs.lemmas.Bool.{and_parts, both_ways, cases_eq, false_from_ne_true, le-leb, leb-true}
use Rattle.std.proofs.lemmas.List.{append-nil}
use Rattle.colour_tables.specs.LayerLists.{MAX_LAYERS, are_layers, depth, layers_have_room}
use Rattle.colour_tables.specs.ListedGlyphs.{each_below, listed, sum_below, with_glyph}
use Rattle.colour_tables.specs.MadeLayers.{layer_bytes, layer_rows, layer_total}
use Rattle.colour_tables.specs.declared.layer.Layer.{Layer}
use Rattle.colour_tables.proofs.GlyphLemmas.{each-at}
use Rattle.colour_writers.specs.Inside.{layers_bytes}
use Rattle.colour_writers.proofs.ListLemmas.{list_step}

abbrev Layers : Type 0
Layers = Option (List Layer)

pub rows_put : (old new : List ℕ) (g : ℕ) (o : Layers) (rest : List (ℕ × List Layer)) → new ≡ old ++ layers_bytes o
    → new ++ layer_rows rest ≡ old ++ layer_rows (with_glyph g o rest)
rows_put old new g None rest e = ap (λ (b : List ℕ). b ++ layer_rows rest) (e ∙ append-nil old)
rows_put old new g (Some ls) rest e =
    ap (λ (b : List ℕ). b ++ layer_rows rest) e ∙ append_assoc old (flat_map layer_bytes ls) (layer_rows rest)

total_with : (g : ℕ) (o : Layers) (rest : List (ℕ × List Layer))
    → layer_total (with_glyph g o rest) ≡ depth o + layer_total rest
total_with g None rest = omega arith
total_with g (Some ls) rest = refl

-- how many layers are left
pub total_step : (x : ℕ → Layers) (g n : ℕ) (o : Layers) → g < n → o ≡ x g
    → depth o + layer_total (listed x (g + 1) (n - (g + 1))) ≡ layer_total (listed x g (n - g))
total_step x g n o h e =
    sym (total_with g o (listed x (g + 1) (n - (g + 1))))
    ∙ list_step layer_total x g n o (layer_total (listed x g (n - g))) h e refl

pub sum_rises : (f : ℕ → ℕ) (g n : ℕ) → g < n → sum_below f g + f g ≤ sum_below f n
sum_rises f g zero h = absurd (omega (arith, h))
sum_rises f g (suc n) h = elim (cases_eq g n) [
  | inl e ↦ subst (λ (m : ℕ). sum_below f g + f g ≤ sum_below f (suc m)) e (omega arith)
  | inr d ↦ omega (arith, sum_rises f g n (omega (arith, h, d)))
]

pub room_ends : (x : ℕ → Layers) (g n left : ℕ) → n ≤ g → g ≤ n
    → each_below (λ h. are_layers n (x h)) g ≡ true → left + sum_below (λ h. depth (x h)) g ≡ 65535
    → true ≡ layers_have_room n x
unfolding layers_have_room MAX_LAYERS
room_ends x g n left h l each room =
    let same : g ≡ n = omega (arith, h, l) in
    let all : each_below (λ h. are_layers n (x h)) n ≡ true =
    subst (λ (m : ℕ). each_below (λ h. are_layers n (x h)) m ≡ true) same each in
    let few : sum_below (λ h. depth (x h)) n ≤ 65535 =
    subst (λ (m : ℕ). sum_below (λ h. depth (x h)) m ≤ 65535) same (omega (arith, room)) in
    sym (λ i. all i && le-leb (sum_below (λ h. depth (x h)) n) 65535 few i)

pub no_room : (x : ℕ → Layers) (g n left : ℕ) (o : Layers) → g < n → o ≡ x g
    → (are_layers n o && leb (depth o) left) ≡ false → left + sum_below (λ h. depth (x h)) g ≡ 65535
    → false ≡ layers_have_room n x
unfolding layers_have_room MAX_LAYERS
no_room x g n left o h e fails room =
    sym (false_from_ne_true (layers_have_room n x) (λ yes.
    let both = and_parts (each_below (λ h. are_layers n (x h)) n) (leb (sum_below (λ h. depth (x h)) n) 65535) yes in
    let few = leb-true (sum_below (λ h. depth (x h)) n) 65535 both.1 in
    let own : are_layers n o ≡ true = ap (are_layers n) e ∙ each-at (λ h. are_layers n (x h)) n g both.0 h in
    let same : depth o ≡ depth (x g) = ap depth e in
    let fits : leb (depth o) left ≡ true =
    le-leb (depth o) left (omega (arith, few, room, same, sum_rises (λ h. depth (x h)) g n h)) in
    both_ways (are_layers n o && leb (depth o) left) fails (λ i. own i && fits i)))
