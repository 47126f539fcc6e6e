-- The lists of layers, as code reads them.
use Rattle.std.proofs.Common.{◌≡◌, ℕ, ◌+◌, ◌-◌, ◌*◌, ◌<◌, ◌≤◌, true, false, Bool, cond, eqb, leb, ltb, ◌&&◌, List, []}
use Rattle.std.proofs.Common.{◌∷◌, drop, find, length, Option, None, Some, is_some, refl, sym, ap, ◌∙◌, arith}
use Rattle.std.specs.List.{list_all}
use Rattle.std.specs.Option.{option_map, option_map_or}
use Rattle.std.proofs.lemmas.Bool.{and_from, and_left, and_parts, and_right, eq-eqb, eqb-true, le-leb, le-ltb}
use Rattle.std.proofs.lemmas.Bool.{leb-true, lt-leb, lt-ltb, ltb-true}
use Rattle.std.proofs.Common.{get_or}
use Rattle.std.proofs.lemmas.List.{drop_all}
use Rattle.sfnt_bytes.specs.Number.{u16_at, u32_at}
use Rattle.colour_tables.specs.LayerLists.{MAX_LAYERS, are_bases, are_layers, base_count, bases_in, bases_of}
use Rattle.colour_tables.specs.LayerLists.{bases_offset, depth}
use Rattle.colour_tables.specs.LayerLists.{has_layer_lists, layer_count, layers_at, layers_have_room, layers_in}
use Rattle.colour_tables.specs.LayerLists.{layers_of}
use Rattle.colour_tables.specs.LayerLists.{layers_offset}
use Rattle.colour_tables.specs.ListedGlyphs.{each_below, sum_below}
use Rattle.colour_tables.specs.declared.layer.Base.{Base}
use Rattle.colour_tables.specs.declared.layer.Layer.{Layer}
use Rattle.colour_tables.proofs.GlyphLemmas.{each-same, sum-same}
use Rattle.colour_readers.specs.Rooms.{MAX_ROOM, has_layers, is_base, layers_left}
use Rattle.colour_readers.proofs.FieldLemmas.{AreRows, rows-drop, rows-long, u16-drop}
use Rattle.colour_readers.proofs.RoomLemmas.{left_after, split}
use Rattle.colour_readers.proofs.PickLemmas.{Within, pick, pick_each, pick_sum, same_tests, total}

-- BaseGlyph records are rows, and so are Layer records
abbrev pub base_row : List ℕ → Base
base_row b = record { glyph = u16_at b 0; first = u16_at b 2; count = u16_at b 4 }

pub bases-rows : AreRows bases_in base_row 6
bases-rows = record { none = λ b. refl; more = λ k b. refl }

abbrev layer_row : List ℕ → Layer
layer_row b = record { glyph = u16_at b 0; palette_entry = u16_at b 2 }

layers-rows : AreRows layers_in layer_row 4
layers-rows = record { none = λ b. refl; more = λ k b. refl }

pub far : (t : List ℕ) (from more i j at : ℕ) → from + more + j ≡ at → u16_at (drop more (drop from t)) j ≡ u16_at t at
far t from more i j at e =
    u16-drop (drop from t) more j (more + j) refl ∙ u16-drop t from (more + j) at (omega (arith, e))

pub base_there : (t : List ℕ) (at i a b c : ℕ) → i < base_count t → at ≡ u32_at t 4 + 6 * i → a ≡ u16_at t at
    → b ≡ u16_at t (at + 2) → c ≡ u16_at t (at + 4)
    → drop i (bases_of t) ≡ record { glyph = a; first = b; count = c } ∷ drop (i + 1) (bases_of t)
unfolding bases_of bases_offset
base_there t at i a b c h e x y z =
    let from = u32_at t 4 in
    let glyph = far t from (6 * i) i 0 at (omega (arith, e)) ∙ sym x in
    let first = far t from (6 * i) i 2 (at + 2) (omega (arith, e)) ∙ sym y in
    let count = far t from (6 * i) i 4 (at + 4) (omega (arith, e)) ∙ sym z in
    rows-drop bases_in base_row 6 bases-rows (base_count t) i (drop from t) h
    ∙ (λ k. record { glyph = glyph k; first = first k; count = count k } ∷ drop (i + 1) (bases_of t))

pub bases_end : (t : List ℕ) (i : ℕ) → base_count t ≤ i → drop i (bases_of t) ≡ []
unfolding bases_of
bases_end t i h =
    drop_all i (bases_of t)
    (omega (arith, h, rows-long bases_in base_row 6 bases-rows (base_count t) (drop (bases_offset t) t)))

-- base glyphs in order
pub bases_more : (n layers from : ℕ) (bs rest : List Base) (b : Base) → bs ≡ b ∷ rest → true ≡ is_base n layers from b
    → are_bases n layers from bs ≡ are_bases n layers (b.glyph + 1) rest
bases_more n layers from bs rest b e t =
    ap (are_bases n layers from) e ∙ ap (λ x. x && are_bases n layers (b.glyph + 1) rest) (sym t)

pub bases_fail : (n layers from : ℕ) (bs rest : List Base) (b : Base) → bs ≡ b ∷ rest → false ≡ is_base n layers from b
    → are_bases n layers from bs ≡ false
bases_fail n layers from bs rest b e t =
    ap (are_bases n layers from) e ∙ ap (λ x. x && are_bases n layers (b.glyph + 1) rest) (sym t)

-- layers of a base glyph
abbrev is_below : ℕ → Layer → Bool
is_below n layer = ltb layer.glyph n

layer_there : (t : List ℕ) (b : Base) (at j g : ℕ) → j < b.count → at ≡ u32_at t 8 + 4 * b.first + 4 * j
    → g ≡ u16_at t at
    → (layer : Layer) × (layer.glyph ≡ g) × (drop j (layers_of t b) ≡ layer ∷ drop (j + 1) (layers_of t b))
unfolding layers_of layers_offset
layer_there t b at j g h e x =
    let from = u32_at t 8 + 4 * b.first in (
      layer_row (drop (4 * j) (drop from t)),
      far t from (4 * j) j 0 at (omega (arith, e)) ∙ sym x,
      rows-drop layers_in layer_row 4 layers-rows b.count j (drop from t) h,
    )

pub layers_more : (t : List ℕ) (b : Base) (n at j g : ℕ) → j < b.count → at ≡ u32_at t 8 + 4 * b.first + 4 * j
    → g ≡ u16_at t at → g < n
    → list_all (is_below n) (drop j (layers_of t b)) ≡ list_all (is_below n) (drop (j + 1) (layers_of t b))
layers_more t b n at j g h e x s =
    let there = layer_there t b at j g h e x in
    ap (list_all (is_below n)) there.2
    ∙ ap (λ z. z && list_all (is_below n) (drop (j + 1) (layers_of t b)))
    (lt-ltb there.0.glyph n (omega (arith, there.1, s)))

pub layers_fail : (t : List ℕ) (b : Base) (n at j g : ℕ) → j < b.count → at ≡ u32_at t 8 + 4 * b.first + 4 * j
    → g ≡ u16_at t at → n ≤ g → list_all (is_below n) (drop j (layers_of t b)) ≡ false
layers_fail t b n at j g h e x s =
    let there = layer_there t b at j g h e x in
    ap (list_all (is_below n)) there.2
    ∙ ap (λ z. z && list_all (is_below n) (drop (j + 1) (layers_of t b)))
    (le-ltb there.0.glyph n (omega (arith, there.1, s)))

pub layers_long : (t : List ℕ) (b : Base) → length (layers_of t b) ≡ b.count
unfolding layers_of
layers_long t b = rows-long layers_in layer_row 4 layers-rows b.count (drop (layers_offset t + 4 * b.first) t)

-- what base glyphs are found
abbrev pub glyph_of : Base → ℕ
glyph_of b = b.glyph

pub one_span : (a g : ℕ) → eqb a g ≡ (leb a g && leb g a)
one_span a g =
    same_tests _ _
    (λ t. let e = eqb-true a g t in
    and_from (leb a g) (leb g a) (le-leb a g (omega (arith, e))) (le-leb g a (omega (arith, e))))
    (λ t. let both = and_parts (leb a g) (leb g a) t in
    eq-eqb a g (omega (arith, leb-true a g both.0, leb-true g a both.1)))

pub found_pick : (g : ℕ) (bs : List Base) → find (λ b. eqb b.glyph g) bs ≡ pick glyph_of glyph_of g bs
found_pick g [] = refl
found_pick g (b ∷ bs) =
    let test = one_span b.glyph g in
    let rest = found_pick g bs in
    λ i. cond (test i) (Some b) (rest i)

pub within_bases : (n layers from : ℕ) (bs : List Base) → are_bases n layers from bs ≡ true
    → Within glyph_of glyph_of from n bs
within_bases n layers from [] t = tt
within_bases n layers from (b ∷ bs) t =
    let all = and_parts _ (are_bases n layers (b.glyph + 1) bs) t in
    let some = and_parts _ (leb (b.first + b.count) layers) all.0 in
    let few = and_parts (leb from b.glyph) (ltb b.glyph n) some.0 in
    (leb-true from b.glyph few.0, omega arith, ltb-true b.glyph n few.1, within_bases n layers (b.glyph + 1) bs all.1)

-- how many layers base glyphs have
abbrev pub counts : List Base → ℕ
counts [] = 0
counts (b ∷ bs) = b.count + counts bs

counts-total : (t : List ℕ) (bs : List Base)
    → total glyph_of glyph_of (λ b. length (layers_of t b)) bs ≡ counts bs
counts-total t [] = refl
counts-total t (b ∷ bs) =
    let one : b.glyph + 1 - b.glyph ≡ 1 = omega arith in
    ap (λ (m : ℕ). m * length (layers_of t b) + total glyph_of glyph_of (λ b. length (layers_of t b)) bs) one
    ∙ omega (arith, layers_long t b, counts-total t bs)

mapped : {A B C : Type 0} (f : B → C) (h : A → B) (o : Option A) (d : C)
    → option_map_or f (option_map h o) d ≡ option_map_or (λ a. f (h a)) o d
mapped f h None d = refl
mapped f h (Some a) d = refl

-- what glyphs have in layers, by base glyphs
pub layers_each : (n layers from : ℕ) (t : List ℕ) → are_bases n layers from (bases_of t) ≡ true
    → each_below (λ g. are_layers n (layers_at t g)) n ≡ list_all (has_layers n t) (bases_of t)
unfolding layers_at
layers_each n layers from t h =
    let bs = bases_of t in
    each-same (λ g. are_layers n (layers_at t g))
    (λ g. option_map_or (has_layers n t) (pick glyph_of glyph_of g bs) true)
    n
    (λ g l. mapped (list_all (is_below n)) (layers_of t) (find (λ b. eqb b.glyph g) bs) true
    ∙ ap (λ o. option_map_or (has_layers n t) o true) (found_pick g bs))
    ∙ pick_each glyph_of glyph_of (has_layers n t) from n bs (within_bases n layers from bs h)

pub layers_sum : (n layers from : ℕ) (t : List ℕ) → are_bases n layers from (bases_of t) ≡ true
    → sum_below (λ g. depth (layers_at t g)) n ≡ counts (bases_of t)
unfolding layers_at
layers_sum n layers from t h =
    let bs = bases_of t in
    sum-same (λ g. depth (layers_at t g))
    (λ g. option_map_or (λ b. length (layers_of t b)) (pick glyph_of glyph_of g bs) 0) n
    (λ g l. mapped length (layers_of t) (find (λ b. eqb b.glyph g) bs) 0
    ∙ ap (λ o. option_map_or (λ b. length (layers_of t b)) o 0) (found_pick g bs))
    ∙ pick_sum glyph_of glyph_of (λ b. length (layers_of t b)) from n bs (within_bases n layers from bs h)
    ∙ counts-total t bs

is_some_left : (all : Bool) (s room : ℕ) → is_some (cond all (left_after s room) None) ≡ (all && leb s room)
is_some_left false s room = refl
is_some_left true s room = by_test (leb s room)
  where
    by_test : (b : Bool) → is_some (cond b (Some (room - s)) None) ≡ b
    by_test true = refl
    by_test false = refl

pub layers_left_is : (n : ℕ) (t : List ℕ) (room : ℕ) (bs : List Base)
    → layers_left n t room bs ≡ cond (list_all (has_layers n t) bs) (left_after (counts bs) room) None
layers_left_is n t room [] =
    let all : room - 0 ≡ room = omega arith in
    sym (ap (λ b. cond b (Some (room - 0)) None) (le-leb 0 room (omega arith)) ∙ ap (λ (m : ℕ). Some m) all)
layers_left_is n t room (b ∷ bs) =
    split (has_layers n t b) (list_all (has_layers n t) bs) b.count (counts bs) room
    (layers_left n t (room - b.count) bs) (layers_left_is n t (room - b.count) bs)

pub left_more : (n : ℕ) (t : List ℕ) (room : ℕ) (bs rest : List Base) (b : Base) → bs ≡ b ∷ rest
    → true ≡ has_layers n t b → b.count ≤ room → layers_left n t room bs ≡ layers_left n t (room - b.count) rest
left_more n t room bs rest b e h l =
    ap (layers_left n t room) e
    ∙ ap (λ z. cond z (layers_left n t (room - b.count) rest) None)
    (and_from (has_layers n t b) (leb b.count room) (sym h) (le-leb b.count room l))

pub left_not_glyphs : (n : ℕ) (t : List ℕ) (room : ℕ) (bs rest : List Base) (b : Base) → bs ≡ b ∷ rest
    → false ≡ has_layers n t b → layers_left n t room bs ≡ None
left_not_glyphs n t room bs rest b e h =
    ap (layers_left n t room) e
    ∙ ap (λ z. cond z (layers_left n t (room - b.count) rest) None)
    (and_left (has_layers n t b) (leb b.count room) (sym h))

pub left_no_room : (n : ℕ) (t : List ℕ) (room : ℕ) (bs rest : List Base) (b : Base) → bs ≡ b ∷ rest
    → room < b.count → layers_left n t room bs ≡ None
left_no_room n t room bs rest b e l =
    ap (layers_left n t room) e
    ∙ ap (λ z. cond z (layers_left n t (room - b.count) rest) None)
    (and_right (has_layers n t b) (leb b.count room) (lt-leb b.count room l))

pub layers_end : (t : List ℕ) (b : Base) (j : ℕ) → b.count ≤ j → drop j (layers_of t b) ≡ []
layers_end t b j h = drop_all j (layers_of t b) (omega (arith, h, layers_long t b))

pub layers_room : (n : ℕ) (t : List ℕ) → has_layer_lists n t ≡ true
    → is_some (layers_left n t MAX_ROOM (bases_of t)) ≡ layers_have_room n (layers_at t)
unfolding has_layer_lists layers_have_room MAX_LAYERS
layers_room n t h =
    let order = (and_parts _ (are_bases n (layer_count t) 0 (bases_of t)) h).1 in
    let each = layers_each n (layer_count t) 0 t order in
    let sum = layers_sum n (layer_count t) 0 t order in
    ap is_some (layers_left_is n t MAX_ROOM (bases_of t))
    ∙ is_some_left (list_all (has_layers n t) (bases_of t)) (counts (bases_of t)) MAX_ROOM
    ∙ sym (λ i. each i && leb (sum i) MAX_ROOM)

-- layers of two base glyphs
pub layer_is : (t : List ℕ) (b : Base) (at j g p : ℕ) → j < b.count → at ≡ u32_at t 8 + 4 * b.first + 4 * j
    → g ≡ u16_at t at → p ≡ u16_at t (at + 2)
    → drop j (layers_of t b) ≡ record { glyph = g; palette_entry = p } ∷ drop (j + 1) (layers_of t b)
unfolding layers_of layers_offset
layer_is t b at j g p h e x y =
    let from = u32_at t 8 + 4 * b.first in
    let glyph = far t from (4 * j) j 0 at (omega (arith, e)) ∙ sym x in
    let entry = far t from (4 * j) j 2 (at + 2) (omega (arith, e)) ∙ sym y in
    rows-drop layers_in layer_row 4 layers-rows b.count j (drop from t) h
    ∙ (λ k. record { glyph = glyph k; palette_entry = entry k } ∷ drop (j + 1) (layers_of t b))

pub same_next : (xs ys rest others : List Layer) (j : ℕ) (x y : Layer) → drop j xs ≡ x ∷ rest → drop j ys ≡ y ∷ others
    → x ≡ y → (drop j xs ≡ drop j ys → xs ≡ ys) → rest ≡ others → xs ≡ ys
same_next xs ys rest others j x y e h same up z = up (e ∙ (λ i. same i ∷ z i) ∙ sym h)

pub same_first : (xs ys rest others : List Layer) (j : ℕ) (x y : Layer) → drop j xs ≡ x ∷ rest → drop j ys ≡ y ∷ others
    → xs ≡ ys → x ≡ y
same_first xs ys rest others j x y e h same =
    ap (λ (zs : List Layer). get_or zs 0 x) (sym e ∙ ap (drop j) same ∙ h)

pub same_length : (t u : List ℕ) (b c : Base) → layers_of t b ≡ layers_of u c → b.count ≡ c.count
same_length t u b c e = sym (layers_long t b) ∙ ap length e ∙ layers_long u c

pub same_end : (t u : List ℕ) (b c : Base) (j : ℕ) → b.count ≤ j → c.count ≤ j
    → (drop j (layers_of t b) ≡ drop j (layers_of u c) → layers_of t b ≡ layers_of u c)
    → layers_of t b ≡ layers_of u c
same_end t u b c j h l up = up (layers_end t b j h ∙ sym (layers_end u c j l))
