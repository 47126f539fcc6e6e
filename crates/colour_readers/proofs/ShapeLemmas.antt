-- The fields of what offsets lead to, as code reads them.
use Rattle.std.proofs.Common.{◌≡◌, ℕ, zero, suc, ◌+◌, ◌-◌, ◌*◌, ◌<◌, ◌≤◌, true, Bool, cond, eqb, ltb, not, ◌||◌}
use Rattle.std.proofs.Common.{List, [], ◌∷◌, drop, get_or, length, take, Option, None, Some, refl, sym, ap, subst, ◌∙◌}
use Rattle.std.proofs.Common.{arith, inl}
use Rattle.std.proofs.Common.{◌⊎◌, inr, slice_get}
use Rattle.std.specs.List.{list_all}
use Rattle.std.proofs.lemmas.Option.{none-some, same_Some, slice_get-get_or, slice_get_past}
use Rattle.std.specs.Option.{option_map_or}
use Rattle.std.proofs.lemmas.Bool.{and_parts, cases_eq, eq-eqb, ltb-true, ne_eqb}
use Rattle.std.proofs.lemmas.List.{drop_all, get_or-drop, get_or-take, get_or_past}
use Rattle.sfnt_bytes.specs.Number.{u16_at, u32_at}
use Rattle.colour_tables.specs.PaintLists.{count_at, layer_list_offset, layer_places_of, places_in}
use Rattle.colour_tables.specs.Paints.{layer_links, links_of, names_glyph, paint_shapes, place_from}
use Rattle.colour_tables.specs.Paints.{rest_of, shape_of, shape_size}
use Rattle.colour_tables.specs.declared.shape.Kind.{Kind}
use Rattle.colour_tables.specs.declared.shape.Kind.TheVariants.{Affine, ClipBox, ColorLine, Paint}
use Rattle.colour_tables.specs.declared.shape.Shape.{Shape}
use Rattle.colour_tables.specs.declared.shape.Shape.TheVariants.{Layers, One, Plain, Two}
use Rattle.colour_readers.specs.Trees.{link_at, link_count, names_in}
use Rattle.colour_readers.proofs.FieldLemmas.{AreRows, rows-get, rows-long, u32-drop}

-- places of layers are rows
places-rows : (at : ℕ) → AreRows (places_in at) (λ b. place_from at (u32_at b 0)) 4
places-rows at = record { none = λ b. refl; more = λ k b. refl }

pub place_there : (t : List ℕ) (i place offset : ℕ) → i < count_at t (u32_at t 18) 0 → place ≡ u32_at t 18 + 4 + 4 * i
    → offset ≡ u32_at t place → place_from (u32_at t 18) offset ≡ get_or (layer_places_of t) i 0
unfolding layer_places_of layer_list_offset
place_there t i place offset h e x =
    let at = u32_at t 18 in
    let b = drop (at + 4) t in
    sym (rows-get (places_in at) (λ b. place_from at (u32_at b 0)) 4 (places-rows at) (count_at t at 0) i b 0 h
    ∙ ap (place_from at)
    (u32-drop b (4 * i) 0 (4 * i) (omega arith) ∙ u32-drop t (at + 4) (4 * i) place (omega (arith, e)) ∙ sym x))

pub place_past : (t : List ℕ) (i : ℕ) → count_at t (u32_at t 18) 0 ≤ i → 0 ≡ get_or (layer_places_of t) i 0
unfolding layer_places_of layer_list_offset
place_past t i h =
    let at = u32_at t 18 in
    let all = rows-long (places_in at) (λ b. place_from at (u32_at b 0)) 4 (places-rows at) (count_at t at 0)
    (drop (at + 4) t) in
    sym (get_or_past (places_in at (count_at t at 0) (drop (at + 4) t)) i 0 (omega (arith, h, all)))

-- the glyph that is named
u16-take : (b : List ℕ) (m : ℕ) → u16_at (take 2 (drop m b)) 0 ≡ u16_at b m
unfolding u16_at
u16-take b m =
    let same : m + 0 ≡ m = omega arith in
    let one =
    get_or-take 2 (drop m b) 0 0 (omega arith) ∙ get_or-drop m b 0 0 ∙ ap (λ (k : ℕ). get_or b k 0) same in
    let two = get_or-take 2 (drop m b) 1 0 (omega arith) ∙ get_or-drop m b 1 0 in
    λ i. one i * 256 + two i

abbrev named_of : ℕ → ℕ → List ℕ → Option ℕ
named_of n f b = cond (eqb f 10) (Some (u16_at b 4)) (cond (eqb f 11) (Some (u16_at b 1)) None)

abbrev Named : ℕ → List ℕ → Shape → ℕ → Type 0
Named n b s f =
    cond (eqb f 0) None (slice_get paint_shapes (f - 1)) ≡ Some s
    → (not (eqb f 10 || eqb f 11) || ltb (u16_at (rest_of s b) 0) n)
    ≡ option_map_or (λ g. ltb g n) (named_of n f b) true

named-ten : (n : ℕ) (b : List ℕ) (s : Shape) → Named n b s 10
named-ten n b s e =
    ap (λ (z : ℕ). ltb z n) (sym (ap (λ o. option_map_or (λ s. u16_at (rest_of s b) 0) o 0) e) ∙ u16-take b 4)

named-eleven : (n : ℕ) (b : List ℕ) (s : Shape) → Named n b s 11
named-eleven n b s e =
    ap (λ (z : ℕ). ltb z n) (sym (ap (λ o. option_map_or (λ s. u16_at (rest_of s b) 0) o 0) e) ∙ u16-take b 1)

named-paint : (n f : ℕ) (b : List ℕ) (s : Shape) → Named n b s f
named-paint n f b s = elim (cases_eq f 10) [
  | inl ten ↦ subst (Named n b s) (sym ten) (named-ten n b s)
  | inr other ↦ elim (cases_eq f 11) [
    | inl eleven ↦ subst (Named n b s) (sym eleven) (named-eleven n b s)
    | inr neither ↦
        let x = ne_eqb f 10 other in
        let y = ne_eqb f 11 neither in
        λ e.
        (λ i. not (x i || y i) || ltb (u16_at (rest_of s b) 0) n)
        ∙ sym (λ i. option_map_or (λ g. ltb g n)
        (cond (x i) (Some (u16_at b 4)) (cond (y i) (Some (u16_at b 1)) None)) true)
  ]
]

pub named-same : (n : ℕ) (k : Kind) (b : List ℕ) (s : Shape) → shape_of k b ≡ Some s
    → names_glyph n k (get_or b 0 0) (rest_of s b) ≡ names_in n k b
named-same n Paint b s e = named-paint n (get_or b 0 0) b s e
named-same n (ColorLine stop) b s e = refl
named-same n (Affine more) b s e = refl
named-same n ClipBox b s e = refl

-- paints are small
all_get : {X : Type 0} (p : X → Bool) (xs : List X) (i : ℕ) (x : X) → list_all p xs ≡ true → slice_get xs i ≡ Some x
    → p x ≡ true
all_get p [] i x t e = absurd (none-some x e)
all_get p (y ∷ ys) zero x t e = ap p (sym (same_Some y x e)) ∙ (and_parts (p y) (list_all p ys) t).0
all_get p (y ∷ ys) (suc i) x t e = all_get p ys i x (and_parts (p y) (list_all p ys) t).1 e

paint_small : (i : ℕ) (s : Shape) → slice_get paint_shapes i ≡ Some s → shape_size s < 64
paint_small i s e =
    ltb-true (shape_size s) 64 (all_get (λ s. ltb (shape_size s) 64) paint_shapes i s refl e)

pub paint_none : (f : ℕ) → (f ≡ 0) ⊎ (32 < f) → None ≡ cond (eqb f 0) None (slice_get paint_shapes (f - 1))
paint_none f (inl e) = sym (ap (λ b. cond b None (slice_get paint_shapes (f - 1))) (eq-eqb f 0 e))
paint_none f (inr h) =
    sym (ap (λ b. cond b None (slice_get paint_shapes (f - 1))) (ne_eqb f 0 (λ e. omega (arith, e, h)))
    ∙ slice_get_past paint_shapes (f - 1) (omega (arith, h)))

paint_get : (i : ℕ) (d : Shape) → i < 32 → slice_get paint_shapes i ≡ Some (get_or paint_shapes i d)
paint_get i d h = slice_get-get_or paint_shapes i d h

pub paint_value : (f i : ℕ) (d : Shape) → 0 < f → f ≤ 32 → i ≡ f - 1
    → Some (get_or paint_shapes i d) ≡ cond (eqb f 0) None (slice_get paint_shapes (f - 1))
paint_value f i d h l e =
    sym (ap (λ b. cond b None (slice_get paint_shapes (f - 1))) (ne_eqb f 0 (λ z. omega (arith, z, h)))
    ∙ ap (slice_get paint_shapes) (sym e) ∙ paint_get i d (omega (arith, h, l, e)))

pub paint_size : (i : ℕ) (d : Shape) → i < 32 → shape_size (get_or paint_shapes i d) < 1125899906842624
paint_size i d h = omega (arith, paint_small i (get_or paint_shapes i d) (paint_get i d h))

-- the offsets
many-there : (layers : List ℕ) (first count i : ℕ) → i < count
    → drop i (layer_links layers first count)
    ≡ (get_or layers (first + i) 0, Paint) ∷ drop (i + 1) (layer_links layers first count)
many-there layers first zero i h = absurd (omega (arith, h))
many-there layers first (suc count) zero h =
    let same : first ≡ first + 0 = omega arith in
    ap (λ (m : ℕ). (get_or layers m 0, Paint) ∷ layer_links layers (first + 1) count) same
many-there layers first (suc count) (suc i) h =
    let same : first + 1 + i ≡ first + suc i = omega arith in
    let next : suc (i + 1) ≡ suc i + 1 = omega arith in
    many-there layers (first + 1) count i (omega (arith, h))
    ∙ (λ j. (get_or layers (same j) 0, Paint) ∷ drop (next j) (layer_links layers first (suc count)))

many-long : (layers : List ℕ) (first count : ℕ) → length (layer_links layers first count) ≡ count
many-long layers first zero = refl
many-long layers first (suc count) = ap suc (many-long layers (first + 1) count)

pub links-long : (layers : List ℕ) (s : Shape) (at : ℕ) (b : List ℕ)
    → length (links_of layers s at b) ≡ link_count s b
links-long layers (Plain more) at b = refl
links-long layers (One more k) at b = refl
links-long layers (Two more k l) at b = refl
links-long layers Layers at b = many-long layers (u32_at b 2) (get_or b 1 0)

pub link_there : (layers : List ℕ) (s : Shape) (at : ℕ) (b : List ℕ) (i : ℕ) → i < link_count s b
    → drop i (links_of layers s at b) ≡ link_at layers s at b i ∷ drop (i + 1) (links_of layers s at b)
link_there layers (Plain more) at b i h = absurd (omega (arith, h))
link_there layers (One more k) at b zero h = refl
link_there layers (One more k) at b (suc i) h = absurd (omega (arith, h))
link_there layers (Two more k l) at b zero h = refl
link_there layers (Two more k l) at b (suc zero) h = refl
link_there layers (Two more k l) at b (suc (suc i)) h = absurd (omega (arith, h))
link_there layers Layers at b i h = many-there layers (u32_at b 2) (get_or b 1 0) i h

pub link_end : (layers : List ℕ) (s : Shape) (at : ℕ) (b : List ℕ) (i : ℕ) → link_count s b ≤ i
    → drop i (links_of layers s at b) ≡ []
link_end layers s at b i h = drop_all i (links_of layers s at b) (omega (arith, h, links-long layers s at b))
