-- Lists of paints, layers and clips that are written are read back.
use Rattle.std.proofs.Common.{◌≡◌, ℕ, suc, ◌+◌, ◌*◌, ◌<◌, ◌≤◌, true, eqb, leb}
use Rattle.std.proofs.Common.{◌||◌, List, [], ◌∷◌, ◌++◌, length, get_or, map, drop, replicate}
use Rattle.std.proofs.Common.{is_some, refl, ap, sym, ◌∙◌, arith, append_assoc, length-append}
use Rattle.std.specs.Option.{option_and_then}
use Rattle.std.proofs.lemmas.List.{get_or-drop, length-drop}
use Rattle.std.proofs.lemmas.Bool.{and_from, cond-false, eq-eqb, le-leb, ne_eqb}
use Rattle.sfnt_bytes.specs.Number.{number, u32_at}
use Rattle.colour_tables.specs.ListedGlyphs.{said_of}
use Rattle.colour_tables.specs.MadeLayers.{bytes_of_u32}
use Rattle.colour_tables.specs.MadeLayers.{offset_of}
use Rattle.colour_tables.specs.MadePaints.{base_list, clip_list, clip_rows}
use Rattle.colour_tables.specs.MadePaints.{forest_of, layer_list}
use Rattle.colour_tables.specs.MadePaints.{place_rows, root_rows, rooted}
use Rattle.colour_tables.specs.PaintLists.{Clip, are_clips, are_roots, base_list_offset, box_at, clip_list_offset}
use Rattle.colour_tables.specs.PaintLists.{clip_place, clips_in, clips_of, count_at, has_list}
use Rattle.colour_tables.specs.PaintLists.{layer_list_offset, layer_places_of, paint_at, places_in}
use Rattle.colour_tables.specs.PaintLists.{roots_in, roots_of, tree_in, tree_size}
use Rattle.colour_tables.specs.Paints.{MAX_DEPTH, Tree}
use Rattle.colour_tables.specs.declared.shape.Kind.{Kind}
use Rattle.colour_tables.specs.declared.shape.Kind.TheVariants.{ClipBox, Paint}
use Rattle.colour_tables.proofs.ForestLemmas.{Reads, next, reads}
use Rattle.colour_tables.proofs.GlyphLemmas.{Ascends}
use Rattle.colour_tables.proofs.LayerReadLemmas.{long, offset-some, or_right}
use Rattle.colour_tables.proofs.PaintListLemmas.{Above, RootsAbove, above-rooted}
use Rattle.colour_tables.proofs.PaintListLemmas.{clip_of, clip_said, clips_read, places_read}
use Rattle.colour_tables.proofs.PaintListLemmas.{clip-size, place-size, root-size, roots_read, tree-said}

-- a number after what is left out
u32-drop : (k j : ℕ) (b : List ℕ) → u32_at (drop k b) j ≡ u32_at b (k + j)
unfolding u32_at
u32-drop k j b =
    let same : (i : ℕ) → get_or (drop k b) (j + i) 0 ≡ get_or b (k + j + i) 0 =
    λ i. (let sum : k + (j + i) ≡ k + j + i = omega arith in
    get_or-drop k b (j + i) 0 ∙ ap (λ (m : ℕ). get_or b m 0) sum) in
    let first = get_or-drop k b j 0 in
    let second = same 1 in
    let third = same 2 in
    let fourth = same 3 in
    λ i. number (first i) (second i) (third i) (fourth i)

u32-front : (n : ℕ) (z : List ℕ) → u32_at (bytes_of_u32 n ++ z) 0 ≡ n
unfolding u32_at
u32-front n z = long n

-- a list with a count after so many bytes, at a place
module _ (t : List ℕ) (place before count : ℕ) (front rest : List ℕ) (some : 0 < place)
    (there : drop place t ≡ front ++ (bytes_of_u32 count ++ rest)) (long_front : length front ≡ before) where
  at_count : drop (place + before) t ≡ bytes_of_u32 count ++ rest
  at_count = next t front (bytes_of_u32 count ++ rest) place before there long_front

  count-is : count_at t place before ≡ count
  count-is =
      let none : place + before + 0 ≡ place + before = omega arith in
      cond-false (eqb place 0) _ _ (ne_eqb place 0 (λ e. omega (arith, e, some)))
      ∙ ap (u32_at t) (sym none) ∙ sym (u32-drop (place + before) 0 t) ∙ ap (λ (b : List ℕ). u32_at b 0) at_count
      ∙ u32-front count rest

  rows-there : drop (place + (before + 4)) t ≡ rest
  rows-there =
      let same : place + (before + 4) ≡ place + before + 4 = omega arith in
      ap (λ (k : ℕ). drop k t) same
      ∙ next t (bytes_of_u32 count) rest (place + before) 4 at_count refl

  list-is : (size : ℕ) → size * count ≤ length rest → has_list t place before size ≡ true
  list-is size h =
      let left : length (drop (place + before) t) ≡ 4 + length rest =
      ap length at_count ∙ omega arith in
      let room : place + (before + 4) + size * count ≤ length t =
      omega (arith, left, h, length-drop (place + before) t) in
      or_right (eqb place 0) _
      (ap (λ (c : ℕ). leb (place + (before + 4) + size * c) (length t)) count-is ∙ le-leb _ _ room)

  list-at : (offset size : ℕ) → offset ≡ place → size * count ≤ length rest → has_list t offset before size ≡ true
  list-at offset size e h = ap (λ (o : ℕ). has_list t o before size) e ∙ list-is size h

-- rows in front of others have room
room-of : (rows after : List ℕ) (size : ℕ) → length rows ≡ size → size ≤ length (rows ++ after)
room-of rows after size e = omega (arith, e, length-append rows after)

-- the BaseGlyphList
pub base-roots : (rs : List (ℕ × ℕ)) (place : ℕ) (t after : List ℕ) → base_list_offset t ≡ offset_of (length rs) place
    → 0 < place → RootsAbove place rs → drop place t ≡ base_list place rs ++ after → roots_of t ≡ rs
unfolding roots_of
base-roots [] place t after offset some above there =
    ap (λ (at : ℕ). roots_in at (count_at t at 0) (drop (at + 4) t)) offset
base-roots (r ∷ rs) place t after offset some above there =
    let rows = root_rows place (r ∷ rs) ++ after in
    let count = suc (length rs) in
    let split = there ∙ append_assoc (bytes_of_u32 count) (root_rows place (r ∷ rs)) after in
    let is = count-is t place 0 count [] rows some split refl in
    let left = rows-there t place 0 count [] rows some split refl in
    ap (λ (at : ℕ). roots_in at (count_at t at 0) (drop (at + 4) t))
    (offset ∙ offset-some count place (omega arith))
    ∙ (λ i. roots_in place (is i) (left i)) ∙ roots_read place (r ∷ rs) after above

pub base-list-has : (rs : List (ℕ × ℕ)) (place : ℕ) (t after : List ℕ)
    → base_list_offset t ≡ offset_of (length rs) place
    → 0 < place → drop place t ≡ base_list place rs ++ after → has_list t (base_list_offset t) 0 6 ≡ true
base-list-has [] place t after offset some there = ap (λ (o : ℕ). has_list t o 0 6) offset
base-list-has (r ∷ rs) place t after offset some there =
    let count = suc (length rs) in
    list-at t place 0 count [] (root_rows place (r ∷ rs) ++ after) some
    (there ∙ append_assoc (bytes_of_u32 count) (root_rows place (r ∷ rs)) after) refl (base_list_offset t) 6
    (offset ∙ offset-some count place (omega arith))
    (room-of (root_rows place (r ∷ rs)) after (6 * count) (root-size place (r ∷ rs)))

-- the LayerList
pub layers-places : (ps : List ℕ) (place : ℕ) (t after : List ℕ) → layer_list_offset t ≡ offset_of (length ps) place
    → 0 < place → Above place ps → drop place t ≡ layer_list place ps ++ after → layer_places_of t ≡ ps
unfolding layer_places_of
layers-places [] place t after offset some above there =
    ap (λ (at : ℕ). places_in at (count_at t at 0) (drop (at + 4) t)) offset
layers-places (p ∷ ps) place t after offset some above there =
    let rows = place_rows place (p ∷ ps) ++ after in
    let count = suc (length ps) in
    let split = there ∙ append_assoc (bytes_of_u32 count) (place_rows place (p ∷ ps)) after in
    let is = count-is t place 0 count [] rows some split refl in
    let left = rows-there t place 0 count [] rows some split refl in
    ap (λ (at : ℕ). places_in at (count_at t at 0) (drop (at + 4) t))
    (offset ∙ offset-some count place (omega arith))
    ∙ (λ i. places_in place (is i) (left i)) ∙ places_read place (p ∷ ps) after above

pub layer-list-has : (ps : List ℕ) (place : ℕ) (t after : List ℕ) → layer_list_offset t ≡ offset_of (length ps) place
    → 0 < place → drop place t ≡ layer_list place ps ++ after → has_list t (layer_list_offset t) 0 4 ≡ true
layer-list-has [] place t after offset some there = ap (λ (o : ℕ). has_list t o 0 4) offset
layer-list-has (p ∷ ps) place t after offset some there =
    let count = suc (length ps) in
    list-at t place 0 count [] (place_rows place (p ∷ ps) ++ after) some
    (there ∙ append_assoc (bytes_of_u32 count) (place_rows place (p ∷ ps)) after) refl (layer_list_offset t) 4
    (offset ∙ offset-some count place (omega arith))
    (room-of (place_rows place (p ∷ ps)) after (4 * count) (place-size place (p ∷ ps)))

-- the ClipList
pub list-clips : (rs : List (ℕ × ℕ)) (place : ℕ) (t after : List ℕ) → clip_list_offset t ≡ offset_of (length rs) place
    → 0 < place → RootsAbove place rs → drop place t ≡ clip_list place rs ++ after → clips_of t ≡ map clip_of rs
unfolding clips_of
list-clips [] place t after offset some above there =
    ap (λ (at : ℕ). clips_in at (count_at t at 1) (drop (at + 5) t)) offset
list-clips (r ∷ rs) place t after offset some above there =
    let rows = clip_rows place (r ∷ rs) ++ after in
    let count = suc (length rs) in
    let split =
    there ∙ ap (λ (b : List ℕ). 1 ∷ b) (append_assoc (bytes_of_u32 count) (clip_rows place (r ∷ rs)) after) in
    let is = count-is t place 1 count (1 ∷ []) rows some split refl in
    let left = rows-there t place 1 count (1 ∷ []) rows some split refl in
    ap (λ (at : ℕ). clips_in at (count_at t at 1) (drop (at + 5) t))
    (offset ∙ offset-some count place (omega arith))
    ∙ (λ i. clips_in place (is i) (left i)) ∙ clips_read place (r ∷ rs) after above

pub clip-list-has : (rs : List (ℕ × ℕ)) (place : ℕ) (t after : List ℕ)
    → clip_list_offset t ≡ offset_of (length rs) place
    → 0 < place → drop place t ≡ clip_list place rs ++ after → has_list t (clip_list_offset t) 1 7 ≡ true
clip-list-has [] place t after offset some there = ap (λ (o : ℕ). has_list t o 1 7) offset
clip-list-has (r ∷ rs) place t after offset some there =
    let count = suc (length rs) in
    list-at t place 1 count (1 ∷ []) (clip_rows place (r ∷ rs) ++ after) some
    (there ∙ ap (λ (b : List ℕ). 1 ∷ b) (append_assoc (bytes_of_u32 count) (clip_rows place (r ∷ rs)) after)) refl
    (clip_list_offset t) 7 (offset ∙ offset-some count place (omega arith))
    (room-of (clip_rows place (r ∷ rs)) after (7 * count) (clip-size place (r ∷ rs)))

pub clip-format : (rs : List (ℕ × ℕ)) (place : ℕ) (t after : List ℕ) → clip_list_offset t ≡ offset_of (length rs) place
    → drop place t ≡ clip_list place rs ++ after
    → (eqb (clip_list_offset t) 0 || eqb (get_or t (clip_list_offset t) 0) 1) ≡ true
clip-format [] place t after offset there = ap (λ (o : ℕ). eqb o 0 || eqb (get_or t o 0) 1) offset
clip-format (r ∷ rs) place t after offset there =
    let none : place + 0 ≡ place = omega arith in
    let here : get_or t (clip_list_offset t) 0 ≡ 1 =
    ap (λ (o : ℕ). get_or t o 0) (offset ∙ offset-some (suc (length rs)) place (omega arith) ∙ sym none)
    ∙ sym (get_or-drop place t 0 0) ∙ ap (λ (b : List ℕ). get_or b 0 0) there in
    or_right (eqb (clip_list_offset t) 0) _ (eq-eqb _ _ here)

-- the lists of trees of glyphs are in order, and these are read
module _ (n : ℕ) (t : List ℕ) where
  abbrev pub ReadsIn : ℕ → Kind → List (ℕ × Tree) → Type 0
  ReadsIn at k es = Reads n t (layer_places_of t) MAX_DEPTH at (replicate (length es) k) (forest_of es)

  pub roots-good : (from at : ℕ) (es : List (ℕ × Tree)) → Ascends from n es → ReadsIn at Paint es
      → are_roots n t from (rooted at es) ≡ true
  unfolding tree_in
  roots-good from at [] order reads = refl
  roots-good from at (e ∷ es) order reads =
      and_from _ _ (and_from _ _ (and_from _ _ (le-leb from e.0 order.0) (le-leb (suc e.0) n order.1))
      (ap is_some reads.0))
      (roots-good (e.0 + 1) (at + tree_size e.1) es order.2 reads.1)

  pub clips-good : (from at : ℕ) (es : List (ℕ × Tree)) → Ascends from n es → ReadsIn at ClipBox es
      → are_clips n t from (map clip_of (rooted at es)) ≡ true
  unfolding tree_in
  clips-good from at [] order reads = refl
  clips-good from at (e ∷ es) order reads =
      and_from _ _ (and_from _ _ (and_from _ _ (and_from _ _ (le-leb from e.0 order.0) (le-leb e.0 e.0 (omega arith)))
      (le-leb (suc e.0) n order.1)) (ap is_some reads.0))
      (clips-good (e.0 + 1) (at + tree_size e.1) es order.2 reads.1)

  pub paint-said : (at g : ℕ) (es : List (ℕ × Tree)) → roots_of t ≡ rooted at es → ReadsIn at Paint es
      → paint_at n t g ≡ said_of g es
  unfolding paint_at tree_in
  paint-said at g es are reads =
      ap (λ (rs : List (ℕ × ℕ)). option_and_then (tree_in n t Paint) (said_of g rs)) are
      ∙ tree-said n t (layer_places_of t) MAX_DEPTH at g Paint es reads

  pub box-said : (at g : ℕ) (es : List (ℕ × Tree)) → clips_of t ≡ map clip_of (rooted at es) → ReadsIn at ClipBox es
      → box_at n t g ≡ said_of g es
  unfolding box_at tree_in
  box-said at g es are reads =
      ap (λ (cs : List Clip). option_and_then (tree_in n t ClipBox) (clip_place g cs)) are
      ∙ ap (option_and_then (tree_in n t ClipBox)) (clip_said g (rooted at es))
      ∙ tree-said n t (layer_places_of t) MAX_DEPTH at g ClipBox es reads

-- a list is above a place if it is where it is not empty
pub above-some : (at : ℕ) (ps : List ℕ) → (0 < length ps → Above at ps) → Above at ps
above-some at [] h = tt
above-some at (p ∷ ps) h = h (omega arith)

pub rooted-some : (at p : ℕ) (es : List (ℕ × Tree)) → (0 < length es → at < p) → RootsAbove at (rooted p es)
rooted-some at p [] h = tt
rooted-some at p (e ∷ es) h = above-rooted at p (e ∷ es) (h (omega arith))
