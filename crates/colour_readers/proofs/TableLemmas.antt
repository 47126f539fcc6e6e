-- What is said of a glyph, by the rows of a table.
use Rattle.std.proofs.Common.{◌≡◌, ℕ, ◌+◌, ◌*◌, ◌<◌, ◌≤◌, true, false, Bool, cond, eqb, List, [], ◌∷◌}
use Rattle.std.proofs.Common.{drop, get_or, find, Option, None, Some, is_some, refl, sym, ap, ◌∙◌, arith}
use Rattle.std.specs.Option.{option_and_then, option_map}
use Rattle.std.proofs.lemmas.Bool.{and_parts, cond_both}
use Rattle.std.proofs.Common.{IfSome, subst}
use Rattle.std.proofs.lemmas.List.{get_or-drop}
use Rattle.sfnt_bytes.specs.Number.{u16_at, u32_at}
use Rattle.codes.specs.Order.{Ascends}
use Rattle.colour_tables.specs.LayerLists.{are_bases, base_count, bases_in, bases_of, bases_offset, has_layer_lists}
use Rattle.colour_tables.specs.LayerLists.{layer_count}
use Rattle.colour_tables.specs.LayerLists.{layers_at, layers_of}
use Rattle.colour_tables.specs.ListedGlyphs.{said_of}
use Rattle.colour_tables.specs.PaintLists.{Clip, are_clips, are_roots, base_list_offset, box_at, clip_list_offset}
use Rattle.colour_tables.specs.PaintLists.{clip_place}
use Rattle.colour_tables.specs.PaintLists.{clips_in, clips_of, count_at, has_paint_lists, paint_at, roots_in, roots_of}
use Rattle.colour_tables.specs.PaintLists.{tree_in}
use Rattle.colour_tables.specs.declared.layer.Base.{Base}
use Rattle.colour_tables.specs.declared.shape.Kind.TheVariants.{ClipBox, Paint}
use Rattle.colour_readers.specs.RowsOf.{AreRowsAt, IsReached, IsRowOf, LiesPast, row_first, row_last}
use Rattle.colour_readers.specs.declared.rows.Rows.{Rows}
use Rattle.colour_readers.proofs.FieldLemmas.{rows-get, rows-long}
use Rattle.colour_readers.proofs.LayerListLemmas.{base_row, bases-rows, far, found_pick, glyph_of, one_span}
use Rattle.colour_readers.proofs.LayerListLemmas.{within_bases}
use Rattle.colour_readers.proofs.PaintListLemmas.{clip_row, clips-rows, root_row, roots-rows, within_clips}
use Rattle.colour_readers.proofs.PaintListLemmas.{within_roots}
use Rattle.colour_readers.proofs.PickLemmas.{is_in, pick}
use Rattle.colour_readers.proofs.RowLemmas.{AreRowsOf, no_row, row_found, rows_ascend, rows_past, rows_reached}

first_at : (t : List ℕ) (list before size last count i : ℕ) (r : Rows) → AreRowsAt t list before size last count r
    → row_first r i ≡ u16_at t (list + before + size * i)
first_at t list before size last count i r are =
    λ k. u16_at (are.bytes_are k) (are.list_is k + are.before_is k + are.size_is k * i)

last_at : (t : List ℕ) (list before size last count i : ℕ) (r : Rows) → AreRowsAt t list before size last count r
    → row_last r i ≡ u16_at t (list + before + size * i + last)
last_at t list before size last count i r are =
    λ k. u16_at (are.bytes_are k) (are.list_is k + are.before_is k + are.size_is k * i + are.last_is k)

-- base glyphs
no_base : Base
no_base = record { glyph = 0; first = 0; count = 0 }

bases_are : (n : ℕ) (t : List ℕ) (r : Rows) → has_layer_lists n t ≡ true
    → AreRowsAt t (u32_at t 4) 0 6 0 (base_count t) r → AreRowsOf r glyph_of glyph_of no_base n (bases_of t)
unfolding has_layer_lists bases_of bases_offset
bases_are n t r h at =
    let list = u32_at t 4 in
    let glyph : (i : ℕ) → i < r.count → u16_at t (list + 0 + 6 * i) ≡ glyph_of (get_or (bases_of t) i no_base) =
    λ i l. sym (ap glyph_of (rows-get bases_in base_row 6 bases-rows (base_count t) i (drop list t) no_base
    (omega (arith, l, at.count_is))) ∙ far t list (6 * i) i 0 (list + 0 + 6 * i) (omega arith)) in
    record {
      within = within_bases n (layer_count t) 0 (bases_of t)
          (and_parts _ (are_bases n (layer_count t) 0 (bases_of t)) h).1;
      count = rows-long bases_in base_row 6 bases-rows (base_count t) (drop list t) ∙ sym at.count_is;
      first_is = λ i l. first_at t list 0 6 0 (base_count t) i r at ∙ glyph i l;
      last_is = λ i l.
          let same : list + 0 + 6 * i + 0 ≡ list + 0 + 6 * i = omega arith in
          last_at t list 0 6 0 (base_count t) i r at ∙ ap (u16_at t) same ∙ glyph i l;
    }

some_mapped : {A B : Type 0} (f : A → B) (o : Option A) → is_some (option_map f o) ≡ is_some o
some_mapped f None = refl
some_mapped f (Some a) = refl

layers_picked : (t : List ℕ) (g : ℕ) → is_some (layers_at t g) ≡ is_some (pick glyph_of glyph_of g (bases_of t))
unfolding layers_at
layers_picked t g =
    some_mapped (layers_of t) (find (λ b. eqb b.glyph g) (bases_of t)) ∙ ap is_some (found_pick g (bases_of t))

pub bases_ascend : (n : ℕ) (t : List ℕ) (r : Rows) → has_layer_lists n t ≡ true
    → AreRowsAt t (u32_at t 4) 0 6 0 (base_count t) r → Ascends (row_last r) r.count
bases_ascend n t r h at = rows_ascend r glyph_of glyph_of no_base n (bases_of t) (bases_are n t r h at)

pub layers_reached : (n : ℕ) (t : List ℕ) (r : Rows) (g : ℕ) (b : Bool) → has_layer_lists n t ≡ true
    → AreRowsAt t (u32_at t 4) 0 6 0 (base_count t) r → IsReached r g b → b ≡ is_some (layers_at t g)
layers_reached n t r g b h at is =
    rows_reached r glyph_of glyph_of no_base n g (bases_of t) b (bases_are n t r h at) is ∙ sym (layers_picked t g)

pub layers_past : (n : ℕ) (t : List ℕ) (r : Rows) (from to : ℕ) (b : Bool) → has_layer_lists n t ≡ true
    → AreRowsAt t (u32_at t 4) 0 6 0 (base_count t) r → LiesPast r from to b → b ≡ true
    → (g : ℕ) → from ≤ g → g < to → is_some (layers_at t g) ≡ false
layers_past n t r from to b h at is e g low high =
    layers_picked t g
    ∙ rows_past r glyph_of glyph_of no_base n from to (bases_of t) b (bases_are n t r h at) is e g low high

-- paints
abbrev root_glyph : ℕ × ℕ → ℕ
root_glyph r = r.0

roots_are : (n : ℕ) (t : List ℕ) (r : Rows) → has_paint_lists n t ≡ true
    → AreRowsAt t (u32_at t 14) 4 6 0 (count_at t (u32_at t 14) 0) r
    → AreRowsOf r root_glyph root_glyph (0, 0) n (roots_of t)
unfolding has_paint_lists roots_of base_list_offset
roots_are n t r h at =
    let list = u32_at t 14 in
    let count = count_at t list 0 in
    let glyph : (i : ℕ) → i < r.count → u16_at t (list + 4 + 6 * i) ≡ root_glyph (get_or (roots_of t) i (0, 0)) =
    λ i l. sym (ap root_glyph (rows-get (roots_in list) (root_row list) 6 (roots-rows list) count i (drop (list + 4) t)
    (0, 0) (omega (arith, l, at.count_is))) ∙ far t (list + 4) (6 * i) i 0 (list + 4 + 6 * i) (omega arith)) in
    let all = and_parts _ (are_clips n t 0 (clips_of t)) h in
    record {
      within = within_roots n 0 t (roots_of t) (and_parts _ (are_roots n t 0 (roots_of t)) all.0).1;
      count = rows-long (roots_in list) (root_row list) 6 (roots-rows list) count (drop (list + 4) t) ∙ sym at.count_is;
      first_is = λ i l. first_at t list 4 6 0 count i r at ∙ glyph i l;
      last_is = λ i l.
          let same : list + 4 + 6 * i + 0 ≡ list + 4 + 6 * i = omega arith in
          last_at t list 4 6 0 count i r at ∙ ap (u16_at t) same ∙ glyph i l;
    }

paint_some : (n : ℕ) (t : List ℕ) (g from : ℕ) (rs : List (ℕ × ℕ)) → are_roots n t from rs ≡ true
    → is_some (option_and_then (tree_in n t Paint) (said_of g rs)) ≡ is_some (pick root_glyph root_glyph g rs)
paint_some n t g from [] h = refl
paint_some n t g from (r ∷ rs) h =
    let all = and_parts _ (are_roots n t (r.0 + 1) rs) h in
    ap (λ b. is_some (option_and_then (tree_in n t Paint) (cond b (Some r.1) (said_of g rs)))) (one_span r.0 g)
    ∙ by_test (is_in r.0 r.0 g) (and_parts _ (is_some (tree_in n t Paint r.1)) all.0).1
    (paint_some n t g (r.0 + 1) rs all.1)
  where
    by_test : (b : Bool) → is_some (tree_in n t Paint r.1) ≡ true
        → is_some (option_and_then (tree_in n t Paint) (said_of g rs)) ≡ is_some (pick root_glyph root_glyph g rs)
        → is_some (option_and_then (tree_in n t Paint) (cond b (Some r.1) (said_of g rs)))
        ≡ is_some (cond b (Some r) (pick root_glyph root_glyph g rs))
    by_test true s e = s
    by_test false s e = e

paint_picked : (n : ℕ) (t : List ℕ) (g : ℕ) → has_paint_lists n t ≡ true
    → is_some (paint_at n t g) ≡ is_some (pick root_glyph root_glyph g (roots_of t))
unfolding paint_at has_paint_lists
paint_picked n t g h =
    let all = and_parts _ (are_clips n t 0 (clips_of t)) h in
    paint_some n t g 0 (roots_of t) (and_parts _ (are_roots n t 0 (roots_of t)) all.0).1

pub roots_ascend : (n : ℕ) (t : List ℕ) (r : Rows) → has_paint_lists n t ≡ true
    → AreRowsAt t (u32_at t 14) 4 6 0 (count_at t (u32_at t 14) 0) r → Ascends (row_last r) r.count
roots_ascend n t r h at = rows_ascend r root_glyph root_glyph (0, 0) n (roots_of t) (roots_are n t r h at)

pub paint_reached : (n : ℕ) (t : List ℕ) (r : Rows) (g : ℕ) (b : Bool) → has_paint_lists n t ≡ true
    → AreRowsAt t (u32_at t 14) 4 6 0 (count_at t (u32_at t 14) 0) r → IsReached r g b → b ≡ is_some (paint_at n t g)
paint_reached n t r g b h at is =
    rows_reached r root_glyph root_glyph (0, 0) n g (roots_of t) b (roots_are n t r h at) is
    ∙ sym (paint_picked n t g h)

pub paint_past : (n : ℕ) (t : List ℕ) (r : Rows) (from to : ℕ) (b : Bool) → has_paint_lists n t ≡ true
    → AreRowsAt t (u32_at t 14) 4 6 0 (count_at t (u32_at t 14) 0) r → LiesPast r from to b → b ≡ true
    → (g : ℕ) → from ≤ g → g < to → is_some (paint_at n t g) ≡ false
paint_past n t r from to b h at is e g low high =
    paint_picked n t g h
    ∙ rows_past r root_glyph root_glyph (0, 0) n from to (roots_of t) b (roots_are n t r h at) is e g low high

-- clip boxes
abbrev clip_first : Clip → ℕ
clip_first c = c.first

abbrev clip_last : Clip → ℕ
clip_last c = c.last

no_clip : Clip
no_clip = record { first = 0; last = 0; place = 0 }

clips_are : (n : ℕ) (t : List ℕ) (r : Rows) → has_paint_lists n t ≡ true
    → AreRowsAt t (u32_at t 22) 5 7 2 (count_at t (u32_at t 22) 1) r
    → AreRowsOf r clip_first clip_last no_clip n (clips_of t)
unfolding has_paint_lists clips_of clip_list_offset
clips_are n t r h at =
    let list = u32_at t 22 in
    let count = count_at t list 1 in
    let row : (i : ℕ) → i < r.count → get_or (clips_of t) i no_clip ≡ clip_row list (drop (7 * i) (drop (list + 5) t)) =
    λ i l. rows-get (clips_in list) (clip_row list) 7 (clips-rows list) count i (drop (list + 5) t) no_clip
    (omega (arith, l, at.count_is)) in
    record {
      within = within_clips n 0 t (clips_of t) (and_parts _ (are_clips n t 0 (clips_of t)) h).1;
      count = rows-long (clips_in list) (clip_row list) 7 (clips-rows list) count (drop (list + 5) t) ∙ sym at.count_is;
      first_is = λ i l.
          first_at t list 5 7 2 count i r at
          ∙ sym (ap clip_first (row i l) ∙ far t (list + 5) (7 * i) i 0 (list + 5 + 7 * i) (omega arith));
      last_is = λ i l.
          last_at t list 5 7 2 count i r at
          ∙ sym (ap clip_last (row i l) ∙ far t (list + 5) (7 * i) i 2 (list + 5 + 7 * i + 2) (omega arith));
    }

box_some : (n : ℕ) (t : List ℕ) (g from : ℕ) (cs : List Clip) → are_clips n t from cs ≡ true
    → is_some (option_and_then (tree_in n t ClipBox) (clip_place g cs)) ≡ is_some (pick clip_first clip_last g cs)
box_some n t g from [] h = refl
box_some n t g from (c ∷ cs) h =
    let all = and_parts _ (are_clips n t (c.last + 1) cs) h in
    by_test (is_in c.first c.last g) (and_parts _ (is_some (tree_in n t ClipBox c.place)) all.0).1
    (box_some n t g (c.last + 1) cs all.1)
  where
    by_test : (b : Bool) → is_some (tree_in n t ClipBox c.place) ≡ true
        → is_some (option_and_then (tree_in n t ClipBox) (clip_place g cs)) ≡ is_some (pick clip_first clip_last g cs)
        → is_some (option_and_then (tree_in n t ClipBox) (cond b (Some c.place) (clip_place g cs)))
        ≡ is_some (cond b (Some c) (pick clip_first clip_last g cs))
    by_test true s e = s
    by_test false s e = e

box_picked : (n : ℕ) (t : List ℕ) (g : ℕ) → has_paint_lists n t ≡ true
    → is_some (box_at n t g) ≡ is_some (pick clip_first clip_last g (clips_of t))
unfolding box_at has_paint_lists
box_picked n t g h = box_some n t g 0 (clips_of t) (and_parts _ (are_clips n t 0 (clips_of t)) h).1

pub clips_ascend : (n : ℕ) (t : List ℕ) (r : Rows) → has_paint_lists n t ≡ true
    → AreRowsAt t (u32_at t 22) 5 7 2 (count_at t (u32_at t 22) 1) r → Ascends (row_last r) r.count
clips_ascend n t r h at = rows_ascend r clip_first clip_last no_clip n (clips_of t) (clips_are n t r h at)

pub box_reached : (n : ℕ) (t : List ℕ) (r : Rows) (g : ℕ) (b : Bool) → has_paint_lists n t ≡ true
    → AreRowsAt t (u32_at t 22) 5 7 2 (count_at t (u32_at t 22) 1) r → IsReached r g b → b ≡ is_some (box_at n t g)
box_reached n t r g b h at is =
    rows_reached r clip_first clip_last no_clip n g (clips_of t) b (clips_are n t r h at) is
    ∙ sym (box_picked n t g h)

pub box_past : (n : ℕ) (t : List ℕ) (r : Rows) (from to : ℕ) (b : Bool) → has_paint_lists n t ≡ true
    → AreRowsAt t (u32_at t 22) 5 7 2 (count_at t (u32_at t 22) 1) r → LiesPast r from to b → b ≡ true
    → (g : ℕ) → from ≤ g → g < to → is_some (box_at n t g) ≡ false
box_past n t r from to b h at is e g low high =
    box_picked n t g h
    ∙ rows_past r clip_first clip_last no_clip n from to (clips_of t) b (clips_are n t r h at) is e g low high

-- places of paints and of clip boxes
said_is : (g : ℕ) (rs : List (ℕ × ℕ)) → said_of g rs ≡ option_map (λ r. r.1) (pick root_glyph root_glyph g rs)
said_is g [] = refl
said_is g (r ∷ rs) =
    ap (λ b. cond b (Some r.1) (said_of g rs)) (one_span r.0 g) ∙ by_test (is_in r.0 r.0 g) (said_is g rs)
  where
    by_test : (b : Bool) → said_of g rs ≡ option_map (λ r. r.1) (pick root_glyph root_glyph g rs)
        → cond b (Some r.1) (said_of g rs)
        ≡ option_map (λ r. r.1) (cond b (Some r) (pick root_glyph root_glyph g rs))
    by_test true e = refl
    by_test false e = e

clip_is : (g : ℕ) (cs : List Clip) → clip_place g cs ≡ option_map (λ c. c.place) (pick clip_first clip_last g cs)
clip_is g [] = refl
clip_is g (c ∷ cs) = by_test (is_in c.first c.last g) (clip_is g cs)
  where
    by_test : (b : Bool) → clip_place g cs ≡ option_map (λ c. c.place) (pick clip_first clip_last g cs)
        → cond b (Some c.place) (clip_place g cs)
        ≡ option_map (λ c. c.place) (cond b (Some c) (pick clip_first clip_last g cs))
    by_test true e = refl
    by_test false e = e

get_first : {X : Type 0} (xs rest : List X) (i : ℕ) (x d : X) → drop i xs ≡ x ∷ rest → get_or xs i d ≡ x
get_first xs rest i x d e =
    let same : i ≡ i + 0 = omega arith in
    ap (λ (k : ℕ). get_or xs k d) same ∙ sym (get_or-drop i xs 0 d) ∙ ap (λ ys. get_or ys 0 d) e

pub paint_placed : (n : ℕ) (t : List ℕ) (r : Rows) (g i glyph place : ℕ) (rest : List (ℕ × ℕ))
    → has_paint_lists n t ≡ true
    → AreRowsAt t (u32_at t 14) 4 6 0 (count_at t (u32_at t 14) 0) r → IsRowOf r g i
    → drop i (roots_of t) ≡ (glyph, place) ∷ rest → Some place ≡ said_of g (roots_of t)
paint_placed n t r g i glyph place rest h at is e =
    sym (said_is g (roots_of t)
    ∙ ap (option_map (λ r. r.1)) (row_found r root_glyph root_glyph (0, 0) n g i (roots_of t) (roots_are n t r h at) is)
    ∙ ap (λ (x : ℕ × ℕ). Some x.1) (get_first (roots_of t) rest i (glyph, place) (0, 0) e))

pub paint_nowhere : (n : ℕ) (t : List ℕ) (r : Rows) (g : ℕ) → has_paint_lists n t ≡ true
    → AreRowsAt t (u32_at t 14) 4 6 0 (count_at t (u32_at t 14) 0) r → IsReached r g false
    → None ≡ said_of g (roots_of t)
paint_nowhere n t r g h at is =
    sym (said_is g (roots_of t)
    ∙ ap (option_map (λ r. r.1)) (no_row r root_glyph root_glyph (0, 0) n g (roots_of t) (roots_are n t r h at) is))

pub box_placed : (n : ℕ) (t : List ℕ) (r : Rows) (g i : ℕ) (c : Clip) (rest : List Clip) → has_paint_lists n t ≡ true
    → AreRowsAt t (u32_at t 22) 5 7 2 (count_at t (u32_at t 22) 1) r → IsRowOf r g i
    → drop i (clips_of t) ≡ c ∷ rest → Some c.place ≡ clip_place g (clips_of t)
box_placed n t r g i c rest h at is e =
    sym (clip_is g (clips_of t)
    ∙ ap (option_map (λ c. c.place)) (row_found r clip_first clip_last no_clip n g i (clips_of t)
    (clips_are n t r h at) is)
    ∙ ap (λ (x : Clip). Some x.place) (get_first (clips_of t) rest i c no_clip e))

pub box_nowhere : (n : ℕ) (t : List ℕ) (r : Rows) (g : ℕ) → has_paint_lists n t ≡ true
    → AreRowsAt t (u32_at t 22) 5 7 2 (count_at t (u32_at t 22) 1) r → IsReached r g false
    → None ≡ clip_place g (clips_of t)
box_nowhere n t r g h at is =
    sym (clip_is g (clips_of t)
    ∙ ap (option_map (λ c. c.place)) (no_row r clip_first clip_last no_clip n g (clips_of t) (clips_are n t r h at) is))

-- what is at these places is read
paint_read : (n : ℕ) (t : List ℕ) (g : ℕ) → has_paint_lists n t ≡ true
    → IfSome (said_of g (roots_of t)) (λ x. is_some (tree_in n t Paint x) ≡ true)
unfolding has_paint_lists
paint_read n t g h =
    let all = and_parts _ (are_clips n t 0 (clips_of t)) h in
    go 0 (roots_of t) (and_parts _ (are_roots n t 0 (roots_of t)) all.0).1
  where
    go : (from : ℕ) (rs : List (ℕ × ℕ)) → are_roots n t from rs ≡ true
        → IfSome (said_of g rs) (λ x. is_some (tree_in n t Paint x) ≡ true)
    go from [] e = tt
    go from (r ∷ rs) e =
        let all = and_parts _ (are_roots n t (r.0 + 1) rs) e in
        cond_both (eqb r.0 g) (Some r.1) (said_of g rs) (λ o. IfSome o (λ x. is_some (tree_in n t Paint x) ≡ true))
        (λ _. (and_parts _ (is_some (tree_in n t Paint r.1)) all.0).1) (λ _. go (r.0 + 1) rs all.1)

box_read : (n : ℕ) (t : List ℕ) (g : ℕ) → has_paint_lists n t ≡ true
    → IfSome (clip_place g (clips_of t)) (λ x. is_some (tree_in n t ClipBox x) ≡ true)
unfolding has_paint_lists
box_read n t g h = go 0 (clips_of t) (and_parts _ (are_clips n t 0 (clips_of t)) h).1
  where
    go : (from : ℕ) (cs : List Clip) → are_clips n t from cs ≡ true
        → IfSome (clip_place g cs) (λ x. is_some (tree_in n t ClipBox x) ≡ true)
    go from [] e = tt
    go from (c ∷ cs) e =
        let all = and_parts _ (are_clips n t (c.last + 1) cs) e in
        cond_both (is_in c.first c.last g) (Some c.place) (clip_place g cs)
        (λ o. IfSome o (λ x. is_some (tree_in n t ClipBox x) ≡ true))
        (λ _. (and_parts _ (is_some (tree_in n t ClipBox c.place)) all.0).1) (λ _. go (c.last + 1) cs all.1)

pub paint_by : (n : ℕ) (t : List ℕ) (g : ℕ) (at : Option ℕ) → at ≡ said_of g (roots_of t)
    → option_and_then (tree_in n t Paint) at ≡ paint_at n t g
unfolding paint_at
paint_by n t g at e = ap (option_and_then (tree_in n t Paint)) e

pub box_by : (n : ℕ) (t : List ℕ) (g : ℕ) (at : Option ℕ) → at ≡ clip_place g (clips_of t)
    → option_and_then (tree_in n t ClipBox) at ≡ box_at n t g
unfolding box_at
box_by n t g at e = ap (option_and_then (tree_in n t ClipBox)) e

pub paint_read_at : (n : ℕ) (t : List ℕ) (g : ℕ) (at : Option ℕ) → has_paint_lists n t ≡ true
    → at ≡ said_of g (roots_of t) → IfSome at (λ x. is_some (tree_in n t Paint x) ≡ true)
paint_read_at n t g at h e =
    subst (λ (o : Option ℕ). IfSome o (λ x. is_some (tree_in n t Paint x) ≡ true)) (sym e) (paint_read n t g h)

pub box_read_at : (n : ℕ) (t : List ℕ) (g : ℕ) (at : Option ℕ) → has_paint_lists n t ≡ true
    → at ≡ clip_place g (clips_of t) → IfSome at (λ x. is_some (tree_in n t ClipBox x) ≡ true)
box_read_at n t g at h e =
    subst (λ (o : Option ℕ). IfSome o (λ x. is_some (tree_in n t ClipBox x) ≡ true)) (sym e) (box_read n t g h)

-- base glyphs that are found
pub base_found : (n : ℕ) (t : List ℕ) (r : Rows) (g i : ℕ) (b : Base) (rest : List Base) → has_layer_lists n t ≡ true
    → AreRowsAt t (u32_at t 4) 0 6 0 (base_count t) r → IsRowOf r g i → drop i (bases_of t) ≡ b ∷ rest
    → Some b ≡ find (λ b. eqb b.glyph g) (bases_of t)
base_found n t r g i b rest h at is e =
    sym (found_pick g (bases_of t)
    ∙ row_found r glyph_of glyph_of no_base n g i (bases_of t) (bases_are n t r h at) is
    ∙ ap (λ (x : Base). Some x) (get_first (bases_of t) rest i b no_base e))

pub base_nowhere : (n : ℕ) (t : List ℕ) (r : Rows) (g : ℕ) → has_layer_lists n t ≡ true
    → AreRowsAt t (u32_at t 4) 0 6 0 (base_count t) r → IsReached r g false
    → None ≡ find (λ b. eqb b.glyph g) (bases_of t)
base_nowhere n t r g h at is =
    sym (found_pick g (bases_of t) ∙ no_row r glyph_of glyph_of no_base n g (bases_of t) (bases_are n t r h at) is)

pub layers_by : (t : List ℕ) (g : ℕ) (base : Option Base) → base ≡ find (λ b. eqb b.glyph g) (bases_of t)
    → option_map (layers_of t) base ≡ layers_at t g
unfolding layers_at
layers_by t g base e = ap (option_map (layers_of t)) e
