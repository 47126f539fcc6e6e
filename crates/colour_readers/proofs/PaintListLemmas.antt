-- The lists of a colour table of version 1, as code reads them.
use Rattle.std.proofs.Common.{◌≡◌, ℕ, zero, suc, ◌+◌, ◌-◌, ◌*◌, ◌<◌, ◌≤◌, true, false, Bool, cond, eqb, leb, ltb, ◌&&◌}
use Rattle.std.proofs.Common.{List, [], ◌∷◌, drop, length, Option, None, Some, is_some, refl, sym, ap, ◌∙◌, arith}
use Rattle.std.proofs.Common.{inl, inr, MatchOption}
use Rattle.std.specs.List.{list_all}
use Rattle.std.proofs.lemmas.Option.{cond_some, none-some}
use Rattle.std.specs.Option.{option_and_then, option_map_or}
use Rattle.std.proofs.lemmas.Bool.{and_parts, cases_lt, false_from_ne_true, le-leb, leb-true, lt-leb, ltb-true}
use Rattle.std.proofs.lemmas.List.{drop_all}
use Rattle.sfnt_bytes.specs.Number.{u16_at, u32_at}
use Rattle.colour_tables.specs.LayerLists.{MAX_LAYERS, are_bases, bases_of, depth, has_layer_lists, layer_count}
use Rattle.colour_tables.specs.LayerLists.{layers_at, layers_have_room}
use Rattle.colour_tables.specs.ListedGlyphs.{said_of, sum_below}
use Rattle.colour_tables.specs.PaintLists.{Clip, are_clips, are_roots, base_list_offset, box_at, clip_list_offset}
use Rattle.colour_tables.specs.PaintLists.{clip_place}
use Rattle.colour_tables.specs.PaintLists.{clips_in, clips_of, colour_at, colour_size, colours_have_room, count_at}
use Rattle.colour_tables.specs.PaintLists.{has_paint_lists, paint_at, roots_in, roots_of, tree_in, tree_size, MAX_BYTES}
use Rattle.colour_tables.specs.Paints.{Tree, place_from, u24_at}
use Rattle.colour_tables.specs.declared.shape.Kind.TheVariants.{ClipBox, Paint}
use Rattle.colour_tables.proofs.GlyphLemmas.{sum-same}
use Rattle.colour_tables.specs.PaintLists.{is_paint_table}
use Rattle.colour_readers.specs.Rooms.{MAX_ROOM, clips_left, has_colours, has_layers, has_lists, has_room, is_clip}
use Rattle.colour_readers.specs.Rooms.{is_root, roots_left}
use Rattle.colour_readers.specs.Trees.{room_left}
use Rattle.colour_readers.proofs.FieldLemmas.{AreRows, rows-drop, rows-long, u16-drop, u24-drop, u32-drop}
use Rattle.colour_readers.proofs.LayerListLemmas.{counts, layers_each, layers_left_is, layers_sum, one_span}
use Rattle.colour_readers.proofs.PickLemmas.{Within, is_in, pick, pick_sum, same_tests, sum-plus, total}
use Rattle.colour_readers.proofs.RoomLemmas.{left_after, split}

-- BaseGlyphPaintRecords and Clips are rows
abbrev pub root_row : ℕ → List ℕ → ℕ × ℕ
root_row at b = (u16_at b 0, place_from at (u32_at b 2))

pub roots-rows : (at : ℕ) → AreRows (roots_in at) (root_row at) 6
roots-rows at = record { none = λ b. refl; more = λ k b. refl }

abbrev pub clip_row : ℕ → List ℕ → Clip
clip_row at b = record { first = u16_at b 0; last = u16_at b 2; place = place_from at (u24_at b 4) }

pub clips-rows : (at : ℕ) → AreRows (clips_in at) (clip_row at) 7
clips-rows at = record { none = λ b. refl; more = λ k b. refl }

pub root_there : (t : List ℕ) (i at g offset place : ℕ) → i < count_at t (u32_at t 14) 0 → at ≡ u32_at t 14 + 4 + 6 * i
    → g ≡ u16_at t at → offset ≡ u32_at t (at + 2) → place ≡ place_from (u32_at t 14) offset
    → drop i (roots_of t) ≡ (g, place) ∷ drop (i + 1) (roots_of t)
unfolding roots_of base_list_offset
root_there t i at g offset place h e x y z =
    let list = u32_at t 14 in
    let b = drop (list + 4) t in
    let glyph =
    u16-drop b (6 * i) 0 (6 * i) (omega arith) ∙ u16-drop t (list + 4) (6 * i) at (omega (arith, e)) ∙ sym x in
    let to =
    u32-drop b (6 * i) 2 (6 * i + 2) (omega arith) ∙ u32-drop t (list + 4) (6 * i + 2) (at + 2) (omega (arith, e))
    ∙ sym y in
    let leads = ap (place_from list) to ∙ sym z in
    rows-drop (roots_in list) (root_row list) 6 (roots-rows list) (count_at t list 0) i b h
    ∙ (λ k. (glyph k, leads k) ∷ drop (i + 1) (roots_of t))

pub roots_end : (t : List ℕ) (i : ℕ) → count_at t (u32_at t 14) 0 ≤ i → drop i (roots_of t) ≡ []
unfolding roots_of base_list_offset
roots_end t i h =
    let list = u32_at t 14 in
    drop_all i (roots_of t)
    (omega (
      arith,
      h,
      rows-long (roots_in list) (root_row list) 6 (roots-rows list) (count_at t list 0)
          (drop (list + 4) t),
    ))

pub clip_there : (t : List ℕ) (i at first last offset place : ℕ) → i < count_at t (u32_at t 22) 1
    → at ≡ u32_at t 22 + 5 + 7 * i → first ≡ u16_at t at → last ≡ u16_at t (at + 2) → offset ≡ u24_at t (at + 4)
    → place ≡ place_from (u32_at t 22) offset
    → drop i (clips_of t) ≡ record { first = first; last = last; place = place } ∷ drop (i + 1) (clips_of t)
unfolding clips_of clip_list_offset
clip_there t i at first last offset place h e x y w z =
    let list = u32_at t 22 in
    let b = drop (list + 5) t in
    let one =
    u16-drop b (7 * i) 0 (7 * i) (omega arith) ∙ u16-drop t (list + 5) (7 * i) at (omega (arith, e)) ∙ sym x in
    let two =
    u16-drop b (7 * i) 2 (7 * i + 2) (omega arith) ∙ u16-drop t (list + 5) (7 * i + 2) (at + 2) (omega (arith, e))
    ∙ sym y in
    let to =
    u24-drop b (7 * i) 4 (7 * i + 4) (omega arith) ∙ u24-drop t (list + 5) (7 * i + 4) (at + 4) (omega (arith, e))
    ∙ sym w in
    let leads = ap (place_from list) to ∙ sym z in
    rows-drop (clips_in list) (clip_row list) 7 (clips-rows list) (count_at t list 1) i b h
    ∙ (λ k. record { first = one k; last = two k; place = leads k } ∷ drop (i + 1) (clips_of t))

pub clips_end : (t : List ℕ) (i : ℕ) → count_at t (u32_at t 22) 1 ≤ i → drop i (clips_of t) ≡ []
unfolding clips_of clip_list_offset
clips_end t i h =
    let list = u32_at t 22 in
    drop_all i (clips_of t)
    (omega (
      arith,
      h,
      rows-long (clips_in list) (clip_row list) 7 (clips-rows list) (count_at t list 1)
          (drop (list + 5) t),
    ))

-- what is left, by what all have
split_some : (q all : Bool) (o : Option Tree) (w : Tree → ℕ) (rest room : ℕ) (after : ℕ → Option ℕ)
    → ((left : ℕ) → after left ≡ cond all (left_after rest left) None)
    → cond q (option_and_then after (room_left w room o)) None
    ≡ cond (q && is_some o && all) (left_after (option_map_or w o 0 + rest) room) None
split_some false all o w rest room after e = refl
split_some true all None w rest room after e = refl
split_some true all (Some x) w rest room after e =
    by_test (leb (w x) room) (room - w x) after ∙ split true all (w x) rest room (after (room - w x)) (e (room - w x))
  where
    by_test : (b : Bool) (m : ℕ) (after : ℕ → Option ℕ)
        → option_and_then after (cond b (Some m) None) ≡ cond b (after m) None
    by_test true m after = refl
    by_test false m after = refl

all_left : (room : ℕ) → Some room ≡ left_after 0 room
all_left room =
    let all : room - 0 ≡ room = omega arith in
    sym (ap (λ b. cond b (Some (room - 0)) None) (le-leb 0 room (omega arith)) ∙ ap (λ (m : ℕ). Some m) all)

abbrev size_in : Option Tree → ℕ
size_in o = option_map_or tree_size o 0

abbrev roots_size : ℕ → List ℕ → List (ℕ × ℕ) → ℕ
roots_size n t [] = 0
roots_size n t (r ∷ rs) = size_in (tree_in n t Paint r.1) + roots_size n t rs

roots_left_is : (n : ℕ) (t : List ℕ) (room from : ℕ) (rs : List (ℕ × ℕ))
    → roots_left n t room from rs ≡ cond (are_roots n t from rs) (left_after (roots_size n t rs) room) None
roots_left_is n t room from [] = all_left room
roots_left_is n t room from (r ∷ rs) =
    split_some (is_root n from r.0) (are_roots n t (r.0 + 1) rs) (tree_in n t Paint r.1) tree_size
    (roots_size n t rs) room
    (λ left. roots_left n t left (r.0 + 1) rs) (λ left. roots_left_is n t left (r.0 + 1) rs)

abbrev clips_size : ℕ → List ℕ → List Clip → ℕ
clips_size n t cs = total (λ c. c.first) (λ c. c.last) (λ c. size_in (tree_in n t ClipBox c.place)) cs

times_size : (o : Option Tree) (m : ℕ) → option_map_or (λ box. m * tree_size box) o 0 ≡ m * size_in o
times_size None m = omega arith
times_size (Some x) m = refl

clips_left_is : (n : ℕ) (t : List ℕ) (room from : ℕ) (cs : List Clip)
    → clips_left n t room from cs ≡ cond (are_clips n t from cs) (left_after (clips_size n t cs) room) None
clips_left_is n t room from [] = all_left room
clips_left_is n t room from (c ∷ cs) =
    let count = c.last + 1 - c.first in
    let box = tree_in n t ClipBox c.place in
    split_some (is_clip n from c.first c.last) (are_clips n t (c.last + 1) cs) box (λ box. count * tree_size box)
    (clips_size n t cs) room (λ left. clips_left n t left (c.last + 1) cs)
    (λ left. clips_left_is n t left (c.last + 1) cs)
    ∙ ap (λ (m : ℕ). cond (is_clip n from c.first c.last && is_some box && are_clips n t (c.last + 1) cs)
    (left_after (m + clips_size n t cs) room) None) (times_size box count)

-- what glyphs have in all
pub within_roots : (n from : ℕ) (t : List ℕ) (rs : List (ℕ × ℕ)) → are_roots n t from rs ≡ true
    → Within (λ r. r.0) (λ r. r.0) from n rs
within_roots n from t [] h = tt
within_roots n from t (r ∷ rs) h =
    let all = and_parts _ (are_roots n t (r.0 + 1) rs) h in
    let some = and_parts _ (is_some (tree_in n t Paint r.1)) all.0 in
    let few = and_parts (leb from r.0) (ltb r.0 n) some.0 in
    (leb-true from r.0 few.0, omega arith, ltb-true r.0 n few.1, within_roots n (r.0 + 1) t rs all.1)

pub within_clips : (n from : ℕ) (t : List ℕ) (cs : List Clip) → are_clips n t from cs ≡ true
    → Within (λ c. c.first) (λ c. c.last) from n cs
within_clips n from t [] h = tt
within_clips n from t (c ∷ cs) h =
    let all = and_parts _ (are_clips n t (c.last + 1) cs) h in
    let some = and_parts _ (is_some (tree_in n t ClipBox c.place)) all.0 in
    let few = and_parts _ (ltb c.last n) some.0 in
    let order = and_parts (leb from c.first) (leb c.first c.last) few.0 in (
      leb-true from c.first order.0,
      leb-true c.first c.last order.1,
      ltb-true c.last n few.1,
      within_clips n (c.last + 1) t cs all.1,
    )

abbrev root_in : ℕ → List ℕ → ℕ × ℕ → ℕ
root_in n t r = size_in (tree_in n t Paint r.1)

said_pick : (n : ℕ) (t : List ℕ) (g : ℕ) (rs : List (ℕ × ℕ))
    → size_in (option_and_then (tree_in n t Paint) (said_of g rs))
    ≡ option_map_or (root_in n t) (pick (λ r. r.0) (λ r. r.0) g rs) 0
said_pick n t g [] = refl
said_pick n t g (r ∷ rs) =
    ap (λ b. size_in (option_and_then (tree_in n t Paint) (cond b (Some r.1) (said_of g rs)))) (one_span r.0 g)
    ∙ by_test (is_in r.0 r.0 g) (said_pick n t g rs)
  where
    by_test : (b : Bool)
        → size_in (option_and_then (tree_in n t Paint) (said_of g rs))
        ≡ option_map_or (root_in n t) (pick (λ r. r.0) (λ r. r.0) g rs) 0
        → size_in (option_and_then (tree_in n t Paint) (cond b (Some r.1) (said_of g rs)))
        ≡ option_map_or (root_in n t) (cond b (Some r) (pick (λ r. r.0) (λ r. r.0) g rs)) 0
    by_test true e = refl
    by_test false e = e

abbrev clip_in : ℕ → List ℕ → Clip → ℕ
clip_in n t c = size_in (tree_in n t ClipBox c.place)

clip_pick : (n : ℕ) (t : List ℕ) (g : ℕ) (cs : List Clip)
    → size_in (option_and_then (tree_in n t ClipBox) (clip_place g cs))
    ≡ option_map_or (clip_in n t) (pick (λ c. c.first) (λ c. c.last) g cs) 0
clip_pick n t g [] = refl
clip_pick n t g (c ∷ cs) = by_test (is_in c.first c.last g) (clip_pick n t g cs)
  where
    by_test : (b : Bool)
        → size_in (option_and_then (tree_in n t ClipBox) (clip_place g cs))
        ≡ option_map_or (clip_in n t) (pick (λ c. c.first) (λ c. c.last) g cs) 0
        → size_in (option_and_then (tree_in n t ClipBox) (cond b (Some c.place) (clip_place g cs)))
        ≡ option_map_or (clip_in n t) (cond b (Some c) (pick (λ c. c.first) (λ c. c.last) g cs)) 0
    by_test true e = refl
    by_test false e = e

roots_total : (n : ℕ) (t : List ℕ) (rs : List (ℕ × ℕ))
    → total (λ r. r.0) (λ r. r.0) (root_in n t) rs ≡ roots_size n t rs
roots_total n t [] = refl
roots_total n t (r ∷ rs) =
    let one : r.0 + 1 - r.0 ≡ 1 = omega arith in
    ap (λ (m : ℕ). m * root_in n t r + total (λ r. r.0) (λ r. r.0) (root_in n t) rs) one
    ∙ omega (arith, roots_total n t rs)

paints_sum : (n : ℕ) (t : List ℕ) → are_roots n t 0 (roots_of t) ≡ true
    → sum_below (λ g. size_in (paint_at n t g)) n ≡ roots_size n t (roots_of t)
unfolding paint_at
paints_sum n t h =
    sum-same (λ g. size_in (paint_at n t g))
    (λ g. option_map_or (root_in n t) (pick (λ r. r.0) (λ r. r.0) g (roots_of t)) 0) n
    (λ g l. said_pick n t g (roots_of t))
    ∙ pick_sum (λ r. r.0) (λ r. r.0) (root_in n t) 0 n (roots_of t) (within_roots n 0 t (roots_of t) h)
    ∙ roots_total n t (roots_of t)

boxes_sum : (n : ℕ) (t : List ℕ) → are_clips n t 0 (clips_of t) ≡ true
    → sum_below (λ g. size_in (box_at n t g)) n ≡ clips_size n t (clips_of t)
unfolding box_at
boxes_sum n t h =
    sum-same (λ g. size_in (box_at n t g))
    (λ g. option_map_or (clip_in n t) (pick (λ c. c.first) (λ c. c.last) g (clips_of t)) 0) n
    (λ g l. clip_pick n t g (clips_of t))
    ∙ pick_sum (λ c. c.first) (λ c. c.last) (clip_in n t) 0 n (clips_of t) (within_clips n 0 t (clips_of t) h)

sum-four : (f : ℕ → ℕ) (n : ℕ) → sum_below (λ g. 4 * f g) n ≡ 4 * sum_below f n
sum-four f zero = refl
sum-four f (suc n) = omega (arith, sum-four f n)

colours_sum : (n : ℕ) (t : List ℕ) → are_bases n (layer_count t) 0 (bases_of t) ≡ true
    → are_roots n t 0 (roots_of t) ≡ true → are_clips n t 0 (clips_of t) ≡ true
    → sum_below (λ g. colour_size (colour_at n t g)) n
    ≡ 4 * counts (bases_of t) + roots_size n t (roots_of t) + clips_size n t (clips_of t)
colours_sum n t b r c =
    let own : ℕ → ℕ = λ g. 4 * depth (layers_at t g) in
    let paints : ℕ → ℕ = λ g. size_in (paint_at n t g) in
    let boxes : ℕ → ℕ = λ g. size_in (box_at n t g) in
    let first : sum_below (λ g. own g + paints g + boxes g) n ≡ sum_below (λ g. own g + paints g) n + sum_below
    boxes n =
    sum-plus (λ g. own g + paints g) boxes n in
    let second : sum_below (λ g. own g + paints g) n ≡ sum_below own n + sum_below paints n = sum-plus own paints n in
    let third : sum_below own n ≡ 4 * sum_below (λ g. depth (layers_at t g)) n = sum-four
    (λ g. depth (layers_at t g)) n in
    first ∙ omega (arith, second, third, layers_sum n (layer_count t) 0 t b, paints_sum n t r, boxes_sum n t c)

-- what has room
is_some_after : (s room : ℕ) → is_some (left_after s room) ≡ leb s room
is_some_after s room = by_test (leb s room)
  where
    by_test : (b : Bool) → is_some (cond b (Some (room - s)) None) ≡ b
    by_test true = refl
    by_test false = refl

never : (b : Bool) → (b && false) ≡ false
never true = refl
never false = refl

both_room : (k r c all most : ℕ) → all ≡ k + r + c → k ≤ most
    → is_some (option_and_then (left_after c) (left_after r (most - k))) ≡ leb all most
both_room k r c all most e h = elim (cases_lt (most - k) r) [
  | inl l ↦
      ap (λ b. is_some (option_and_then (left_after c) (cond b (Some (most - k - r)) None))) (lt-leb r (most - k) l)
      ∙ sym (lt-leb all most (omega (arith, e, h, l)))
  | inr l ↦
      ap (λ b. is_some (option_and_then (left_after c) (cond b (Some (most - k - r)) None))) (le-leb r (most - k) l)
      ∙ is_some_after c (most - k - r)
      ∙ same_tests _ _ (λ q. le-leb all most (omega (arith, e, h, l, leb-true c (most - k - r) q)))
      (λ q. le-leb c (most - k - r) (omega (arith, e, h, l, leb-true all most q)))
]

none_left : (b : Bool) (m : ℕ) (o : Option ℕ) → is_some o ≡ false
    → is_some (option_and_then (λ (left : ℕ). o) (cond b (Some m) None)) ≡ false
none_left true m o e = e
none_left false m o e = refl

rooms_are : (h r c : Bool) (ls rs cs all : ℕ) → (r ≡ true → c ≡ true → all ≡ 4 * ls + rs + cs)
    → is_some (option_and_then
    (λ layers. option_and_then (λ left. cond c (left_after cs left) None)
    (cond r (left_after rs (16777215 - 4 * (65535 - layers))) None)) (cond h (left_after ls 65535) None))
    ≡ (r && c && (h && leb ls 65535 && leb all 16777215))
rooms_are false r c ls rs cs all e = sym (never (r && c))
rooms_are true r c ls rs cs all e = elim (cases_lt 65535 ls) [
  | inl l ↦
      let out = lt-leb ls 65535 l in
      ap (λ b. is_some (option_and_then
      (λ layers. option_and_then (λ left. cond c (left_after cs left) None)
      (cond r (left_after rs (16777215 - 4 * (65535 - layers))) None)) (cond b (Some (65535 - ls)) None))) out
      ∙ sym (ap (λ b. r && c && (b && leb all 16777215)) out ∙ never (r && c))
  | inr l ↦
      let fits = le-leb ls 65535 l in
      let same : 65535 - (65535 - ls) ≡ ls = omega (arith, l) in
      ap (λ b. is_some (option_and_then
      (λ layers. option_and_then (λ left. cond c (left_after cs left) None)
      (cond r (left_after rs (16777215 - 4 * (65535 - layers))) None)) (cond b (Some (65535 - ls)) None))) fits
      ∙ ap (λ (m : ℕ). is_some (option_and_then (λ left. cond c (left_after cs left) None)
      (cond r (left_after rs (16777215 - 4 * m)) None))) same
      ∙ by_tests r c ls rs cs all l e
      ∙ sym (ap (λ b. r && c && (b && leb all 16777215)) fits)
]
  where
    by_tests : (r c : Bool) (ls rs cs all : ℕ) → ls ≤ 65535 → (r ≡ true → c ≡ true → all ≡ 4 * ls + rs + cs)
        → is_some (option_and_then (λ left. cond c (left_after cs left) None)
        (cond r (left_after rs (16777215 - 4 * ls)) None))
        ≡ (r && c && leb all 16777215)
    by_tests false c ls rs cs all l e = refl
    by_tests true false ls rs cs all l e =
        none_left (leb rs (16777215 - 4 * ls)) (16777215 - 4 * ls - rs) None refl
    by_tests true true ls rs cs all l e = both_room (4 * ls) rs cs all 16777215 (e refl refl) (omega (arith, l))

room_is : (n : ℕ) (t : List ℕ) → has_layer_lists n t ≡ true
    → has_room n t
    ≡ (are_roots n t 0 (roots_of t) && are_clips n t 0 (clips_of t) && colours_have_room n (colour_at n t))
unfolding has_layer_lists layers_have_room colours_have_room MAX_BYTES MAX_LAYERS
room_is n t h =
    let order = (and_parts _ (are_bases n (layer_count t) 0 (bases_of t)) h).1 in
    let each = layers_each n (layer_count t) 0 t order in
    let sum = layers_sum n (layer_count t) 0 t order in
    let all = sum_below (λ g. colour_size (colour_at n t g)) n in
    let roots = are_roots n t 0 (roots_of t) in
    let clips = are_clips n t 0 (clips_of t) in
    (λ i. is_some (option_and_then
    (λ layers. option_and_then (λ left. clips_left_is n t left 0 (clips_of t) i)
    (roots_left_is n t (16777215 - 4 * (65535 - layers)) 0 (roots_of t) i))
    (layers_left_is n t MAX_ROOM (bases_of t) i)))
    ∙ rooms_are (list_all (has_layers n t) (bases_of t)) roots clips (counts (bases_of t)) (roots_size n t (roots_of t))
    (clips_size n t (clips_of t)) all (colours_sum n t order)
    ∙ sym (λ i. roots && clips && (each i && leb (sum i) 65535 && leb all 16777215))

under : (x h p q r s : Bool) → (h ≡ true → (p && q) ≡ (r && s)) → (x && h && p && q) ≡ (x && h && r && s)
under false h p q r s e = refl
under true false p q r s e = refl
under true true p q r s e = e refl

regrouped : (l r c y : Bool) → (l && (r && c && y)) ≡ (l && r && c && y)
regrouped false r c y = refl
regrouped true r c y = refl

pub paint_table_is : (n : ℕ) (t : List ℕ)
    → has_colours n t ≡ is_paint_table n t
unfolding is_paint_table has_paint_lists
paint_table_is n t =
    under (leb 34 (length t) && eqb (u16_at t 0) 1) (has_layer_lists n t) (has_lists t) (has_room n t) _ _
    (λ h. ap (λ b. has_lists t && b) (room_is n t h) ∙ regrouped (has_lists t) _ _ _)

-- clip boxes, one for each of some glyphs
pub box_none : (o : Option Tree) (count room : ℕ) → 0 < count → None ≡ room_left tree_size room o
    → None ≡ room_left (λ box. count * tree_size box) room o
box_none None count room h e = refl
box_none (Some x) count room h e = elim (cases_lt room (tree_size x)) [
  | inl l ↦
      let one : count ≡ (count - 1) + 1 = omega (arith, h) in
      let more : ((count - 1) + 1) * tree_size x ≡ (count - 1) * tree_size x + tree_size x = omega arith in
      let same = ap (λ (k : ℕ). k * tree_size x) one ∙ more in
      sym (ap (λ b. cond b (Some (room - count * tree_size x)) None)
      (lt-leb (count * tree_size x) room (omega (arith, l, same))))
  | inr l ↦
      absurd (none-some _ (e ∙ ap (λ b. cond b (Some (room - tree_size x)) None) (le-leb (tree_size x) room l)))
]

pub box_some : (o : Option Tree) (count room left : ℕ) → 0 < count → Some left ≡ room_left tree_size room o
    → room_left (λ box. count * tree_size box) room o ≡ left_after ((count - 1) * (room - left)) left
box_some None count room left h e = absurd (none-some left (sym e))
box_some (Some x) count room left h e =
    let s = tree_size x in
    let is = cond_some (leb s room) (room - s) left (sym e) in
    let within = leb-true s room is.0 in
    let rest : room - left ≡ s = omega (arith, within, is.1) in
    let one : count ≡ (count - 1) + 1 = omega (arith, h) in
    let more : ((count - 1) + 1) * s ≡ (count - 1) * s + s = omega arith in
    let all : count * s ≡ (count - 1) * (room - left) + s =
    ap (λ (k : ℕ). k * s) one ∙ more ∙ ap (λ (k : ℕ). (count - 1) * k + s) (sym rest) in
    let others = (count - 1) * (room - left) in
    let fits : leb (count * s) room ≡ leb others left =
    same_tests _ _ (λ q. le-leb others left (omega (arith, all, within, is.1, leb-true (count * s) room q)))
    (λ q. le-leb (count * s) room (omega (arith, all, within, is.1, leb-true others left q))) in
    let same : room - count * s ≡ left - others = omega (arith, all, within, is.1) in
    λ i. cond (fits i) (Some (same i)) None

pub sub_is : (a b : ℕ) (o : Option ℕ) → MatchOption o (b ≤ a → ⊥) (λ x. (b ≤ a) × (x ≡ a - b)) → o ≡ left_after b a
sub_is a b None h =
    sym (ap (λ c. cond c (Some (a - b)) None) (false_from_ne_true (leb b a) (λ q. h (leb-true b a q))))
sub_is a b (Some x) h =
    sym (ap (λ c. cond c (Some (a - b)) None) (le-leb b a h.0) ∙ ap (λ (m : ℕ). Some m) (sym h.1))
