-- The variation data of glyphs that are listed, and a `gvar` that is made of them.
use Rattle.std.proofs.Common.{◌≡◌, ◌≢◌, ℕ, zero, suc, ◌+◌, ◌-◌, ◌<◌, ◌≤◌, inl, inr, Bool, true, false, cond, List, []}
use Rattle.std.proofs.Common.{◌∷◌, ◌++◌, drop, get_or, length, length-append, length-drop, map, replicate, slice_set}
use Rattle.std.proofs.Common.{slice_index_or, Option, None, Some, is_some, unwrap_or, IfSome, refl, sym, ◌∙◌, ap}
use Rattle.std.proofs.Common.{subst, arith}
use Rattle.std.specs.List.{concat, range_with_len}
use Rattle.std.specs.Option.{option_map, option_map_or}
use Rattle.std.proofs.Math.Path.{fun_ext}
use Rattle.std.proofs.lemmas.Bool.{cases_eq, cases_lt}
use Rattle.std.proofs.lemmas.List.{ext_get_or, get_or-set_other, get_or-set_same, length-map, length-replicate}
use Rattle.std.proofs.lemmas.List.{length-set, length-take}
use Rattle.std.proofs.lemmas.List.FromFn.{get_or-map-range_with_len, length-map-range_with_len, map-range_with_len_more}
use Rattle.sfnt_bytes.specs.declared.directory.TheConstants.{MAX_FILE}
use Rattle.sfnt_bytes.specs.declared.tag.TheConstants.{FVAR, GVAR}
use Rattle.font_variations.specs.Gvar.{data_of, data_offset, from_data, front_of, is_bad_variations}
use Rattle.font_variations.specs.Gvar.{shared_tuples_length, shared_tuples_of, shared_tuples_offset}
use Rattle.font_variations.specs.MadeGvar.{data_at, gvar_bytes, listed_data}
use Rattle.font_variations.proofs.GivenLemmas.{listed_by_index, made_of_listed}
use Rattle.font_variations.proofs.LawLemmas.{lead_in_order, made_read, parts_fit}
use Rattle.font_variations.proofs.MadeLemmas.{length-made}
use Rattle.font_theory.specs.Content.{Content, glyph_count, is_bad_variations_in, table_in_slot}
use Rattle.font_theory.specs.Kinds.{by_variations, reduced}
use Rattle.font_theory.specs.Parted.{gvar_with, variation_data, variations}
use Rattle.font_theory.specs.Parting.{Tables, context, frames, is_bad_at}
use Rattle.font_theory.proofs.PartLemmas.{parts_of-alike}
use Rattle.font_theory.proofs.PartedLemmas.{gvar_with-again}
use Rattle.font_theory.proofs.KindJoinLemmas.{gvar_with-same}
use Rattle.font_theory.proofs.WordLemmas.{count-context, part-data, variation_data-none}
use Rattle.font_write.specs.Parts.{IsNextKept}
use Rattle.font_write.specs.declared.source.TheConstants.{MAX_TABLE}
use Rattle.divided_tables.specs.PartedTable.{AreJoinable, ArePartsIn, IsFine, IsUnionOf, alone, is_bad_in}
use Rattle.divided_tables.specs.PartedTable.{made_or_laid}
use Rattle.divided_tables.specs.OpenVariations.{AreVariationsOf, OpenGvar, OpenVariations, data_in, either_data}
use Rattle.divided_tables.specs.OpenVariations.{opened_gvar, united_gvar, variations_parts}

-- data that rise by their offsets have no more bytes than lie between the first offset and the last
within_offsets : (at : ℕ → ℕ) (of_glyph : ℕ → List ℕ) (low n : ℕ)
    → ((j : ℕ) → j < low + n → length (of_glyph j) + at j ≤ at (j + 1))
    → length (concat (map of_glyph (range_with_len low n))) + at low ≤ at (low + n)
within_offsets at of_glyph low zero rises =
    let e : low + zero ≡ low = omega arith in
    let same : at (low + zero) ≡ at low = ap at e in
    let none : length (concat (map of_glyph (range_with_len low zero))) ≡ 0 = refl in
    omega (arith, same, none)
within_offsets at of_glyph low (suc n) rises =
    let first = rises low (omega arith) in
    let rest = within_offsets at of_glyph (low + 1) n (λ j h. rises j (omega (arith, h))) in
    let whole : length (concat (map of_glyph (range_with_len low (suc n))))
    ≡ length (of_glyph low) + length (concat (map of_glyph (range_with_len (low + 1) n))) =
    length-append (of_glyph low) (concat (map of_glyph (range_with_len (low + 1) n))) in
    let end : low + 1 + n ≡ low + suc n = omega arith in
    let last : at (low + 1 + n) ≡ at (low + suc n) = ap at end in
    omega (arith, first, rest, whole, last)

-- the data of a glyph in an accepted table lie between its offset and the next one
data_between : (gvar : List ℕ) (g : ℕ) → data_offset gvar g ≤ data_offset gvar (g + 1)
    → length (data_of gvar g) + data_offset gvar g ≤ data_offset gvar (g + 1)
unfolding data_of
data_between gvar g rises =
    let size = length-take (data_offset gvar (g + 1) - data_offset gvar g)
    (drop (data_offset gvar g) (from_data gvar)) in
    omega (arith, size, rises)

-- so those of some glyphs are no longer than the table
pub kept_data_small : (gvar : List ℕ) (fvar : Option (List ℕ)) (n : ℕ) (keeps : ℕ → Bool)
    → is_bad_variations gvar fvar n ≡ false
    → length (concat (listed_data (λ g. cond (keeps g) (data_of gvar g) []) n)) ≤ length gvar
kept_data_small gvar fvar zero keeps accepted = omega arith
kept_data_small gvar fvar (suc n) keeps accepted =
    let each : (j : ℕ) → j < 0 + suc n → length (cond (keeps j) (data_of gvar j) []) + data_offset gvar j
    ≤ data_offset gvar (j + 1) = λ j low.
    (let rises = (lead_in_order gvar fvar (suc n) j accepted (omega (arith, low))).0 in
    cases j (keeps j) rises) in
    let all = within_offsets (data_offset gvar) (λ g. cond (keeps g) (data_of gvar g) []) 0 (suc n) each in
    let last = (lead_in_order gvar fvar (suc n) n accepted (omega arith)).1 in
    let e : 0 + suc n ≡ n + 1 = omega arith in
    let same : data_offset gvar (0 + suc n) ≡ data_offset gvar (n + 1) = ap (data_offset gvar) e in
    omega (arith, all, last, same)
  where
    cases : (j : ℕ) (b : Bool) → data_offset gvar j ≤ data_offset gvar (j + 1)
        → length (cond b (data_of gvar j) []) + data_offset gvar j ≤ data_offset gvar (j + 1)
    cases j true rises = data_between gvar j rises
    cases j false rises = omega (arith, rises)

-- and the shared tuples
shared_small : (gvar : List ℕ) → length (shared_tuples_of gvar) ≤ length gvar
unfolding shared_tuples_of
shared_small gvar =
    let size = length-take (shared_tuples_length gvar) (drop (shared_tuples_offset gvar) gvar) in
    let left = length-drop (shared_tuples_offset gvar) gvar in
    omega (arith, size, left)

-- the data of two, glyph by glyph, are no longer than those of both together
either_length : (f g h : ℕ → List ℕ) (k n : ℕ) → ((j : ℕ) → length (f j) ≤ length (g j) + length (h j))
    → length (concat (map f (range_with_len k n))) ≤ length (concat (map g (range_with_len k n)))
    + length (concat (map h (range_with_len k n)))
either_length f g h k zero each = omega arith
either_length f g h k (suc n) each =
    let here = each k in
    let rest = either_length f g h (k + 1) n each in
    let first = length-append (f k) (concat (map f (range_with_len (k + 1) n))) in
    let second = length-append (g k) (concat (map g (range_with_len (k + 1) n))) in
    let third = length-append (h k) (concat (map h (range_with_len (k + 1) n))) in
    omega arith

-- no data at all
listed_none : (f : ℕ → List ℕ) (n k : ℕ) → ((j : ℕ) → f j ≡ []) → length (concat (map f (range_with_len k n))) ≡ 0
listed_none f zero k none = refl
listed_none f (suc n) k none =
    let rest = listed_none f n (k + 1) none in
    let all = length-append (f k) (concat (map f (range_with_len (k + 1) n))) in
    let here : length (f k) ≡ 0 = ap length (none k) in
    omega arith

either_shorter : (b : Bool) (x y : List ℕ) → length (cond b x y) ≤ length x + length y
either_shorter true x y = omega arith
either_shorter false x y = omega arith

-- tables with a `gvar`
good_gvar : (c : Tables) → IsFine GVAR c → is_bad_variations_in c ≡ false
unfolding is_bad_variations_in context glyph_count
good_gvar c fine = fine.good

accepted_some : (c : Tables) (t : List ℕ) → is_bad_variations_in c ≡ false → c GVAR ≡ Some t
    → is_bad_variations t (c FVAR) (glyph_count c) ≡ false
unfolding is_bad_variations_in
accepted_some c t ok e =
    sym (ap (λ o. option_map_or (λ gvar. is_bad_variations gvar (c FVAR) (glyph_count c)) o false) e) ∙ ok

-- the data of all glyphs are no longer than the table
data_short : (c : Tables) (o : Option (List ℕ)) → c GVAR ≡ o → is_bad_variations_in c ≡ false
    → length (concat (listed_data (variation_data c) (glyph_count c))) ≤ length (unwrap_or o [])
unfolding variation_data
data_short c None e ok =
    let none = listed_none (variation_data c) (glyph_count c) 0 (variation_data-none c e) in
    omega (arith, none)
data_short c (Some t) e ok =
    let table : table_in_slot c GVAR ≡ t = ap (λ (o : Option (List ℕ)). unwrap_or o []) e in
    let all : length (concat (listed_data (data_of t) (glyph_count c))) ≤ length t =
    kept_data_small t (c FVAR) (glyph_count c) (λ _. true) (accepted_some c t ok e) in
    subst (λ (x : List ℕ). length (concat (listed_data (data_of x) (glyph_count c))) ≤ length t) (sym table) all

data_in_table : (c : Tables) → IsFine GVAR c
    → length (concat (listed_data (variation_data c) (glyph_count c))) ≤ length (table_in_slot c GVAR)
data_in_table c fine = data_short c (c GVAR) refl (good_gvar c fine)

-- so those of two contents with as many glyphs fit into a table
pub either_fits : (C D : Content) → IsFine GVAR C.copied → IsFine GVAR D.copied
    → glyph_count C.copied ≡ glyph_count D.copied
    → length (concat (listed_data (either_data C D) (glyph_count C.copied))) ≤ MAX_FILE + MAX_FILE
either_fits C D first second count =
    let n : ℕ = glyph_count C.copied in
    let both = either_length (either_data C D) (variation_data C.copied) (variation_data D.copied) 0 n
    (λ j. either_shorter (is_some (C.outline j)) (variation_data C.copied j) (variation_data D.copied j)) in
    let a = data_in_table C.copied first in
    let b = data_in_table D.copied second in
    let same : length (concat (listed_data (variation_data D.copied) n))
    ≡ length (concat (listed_data (variation_data D.copied) (glyph_count D.copied))) =
    ap (λ (k : ℕ). length (concat (listed_data (variation_data D.copied) k))) count in
    omega (arith, first.short, second.short)

some_same : {X : Type 0} (a b : X) → Some a ≡ Some b → a ≡ b
some_same a b e = cc

-- what a `gvar` is opened as
pub opened_some : (c : Tables) (v : List ℕ × ℕ) → opened_gvar c ≡ Some v → (c GVAR ≡ Some v.0) × (glyph_count c ≡ v.1)
opened_some c v e = go (c GVAR) refl e
  where
    go : (o : Option (List ℕ)) → c GVAR ≡ o → option_map (λ t. (t, glyph_count c)) o ≡ Some v
        → (c GVAR ≡ Some v.0) × (glyph_count c ≡ v.1)
    go None x y = cc
    go (Some t) x y = (
      x ∙ ap Some (ap (λ (w : List ℕ × ℕ). w.0) (some_same (t, glyph_count c) v y)),
      ap (λ (w : List ℕ × ℕ). w.1) (some_same (t, glyph_count c) v y),
    )

pub opened_none : (c : Tables) → opened_gvar c ≡ None → c GVAR ≡ None
opened_none c e = go (c GVAR) refl e
  where
    go : (o : Option (List ℕ)) → c GVAR ≡ o → option_map {U = List ℕ × ℕ} (λ t. (t, glyph_count c)) o ≡ None
        → c GVAR ≡ None
    go None x y = x
    go (Some t) x y = cc

-- the data of a glyph in the `gvar` of some tables
pub data_opened : (c : Tables) (g : ℕ) → data_in (opened_gvar c) g ≡ variation_data c g
unfolding variation_data
data_opened c g = go (c GVAR) refl
  where
    go : (o : Option (List ℕ)) → c GVAR ≡ o → data_in (option_map (λ t. (t, glyph_count c)) o) g ≡ data_of (unwrap_or
        (c GVAR) []) g
    go None e = sym (variation_data-none c e g)
    go (Some t) e = sym (ap (λ (o : Option (List ℕ)). data_of (unwrap_or o []) g) e)

-- those of two contents
pub either_opened : (C D : Content) (first second : OpenGvar) → first ≡ opened_gvar C.copied
    → second ≡ opened_gvar D.copied
    → (λ g. cond (is_some (C.outline g)) (data_in first g) (data_in second g)) ≡ either_data C D
either_opened C D first second e f =
    (λ i. λ g. cond (is_some (C.outline g)) (data_in (e i) g) (data_in (f i) g))
    ∙ fun_ext (λ g. λ i. cond (is_some (C.outline g)) (data_opened C.copied g i) (data_opened D.copied g i))

-- it is of as many glyphs as the tables
pub opened_count : (c : Tables) (v : OpenGvar) → v ≡ opened_gvar c → IfSome v (λ x. x.1 ≡ glyph_count c)
opened_count c v e = subst (λ (o : OpenGvar). IfSome o (λ x. x.1 ≡ glyph_count c)) (sym e) (go (c GVAR))
  where
    go : (o : Option (List ℕ)) → IfSome {T = List ℕ × ℕ} (option_map (λ t. (t, glyph_count c)) o)
        (λ x. x.1 ≡ glyph_count c)
    go None = tt
    go (Some t) = refl

-- where its data begin
pub place_fits : (t shared : List ℕ) (m : ℕ) → shared ≡ shared_tuples_of t → length t ≤ MAX_FILE → m < 65536
    → data_at shared m ≤ MAX_FILE + MAX_FILE
place_fits t shared m tuples short low =
    let parts = shared_small t in
    let size : length shared ≡ length (shared_tuples_of t) = ap length tuples in
    omega arith

pub short_at : (c : Tables) (v : List ℕ × ℕ) → opened_gvar c ≡ Some v → IsFine GVAR c → length v.0 ≤ MAX_FILE
short_at c v e fine =
    let there : table_in_slot c GVAR ≡ v.0 = ap (λ (o : Option (List ℕ)). unwrap_or o []) (opened_some c v e).0 in
    subst (λ (t : List ℕ). length t ≤ MAX_FILE) there fine.short

-- a table that is made anew
module _ (t : List ℕ) (front shared made : List ℕ) (listed : List (List ℕ)) (m : ℕ) (fronts : front ≡ front_of t)
    (tuples : shared ≡ shared_tuples_of t) (count : length listed ≡ m)
    (is : made ≡ gvar_bytes front shared (λ g. slice_index_or listed g []) m) where
  pub made_with : (f : ℕ → List ℕ) (n : ℕ) → listed ≡ listed_data f n → made ≡ gvar_with f n t
  made_with f n same =
      let size : m ≡ n = sym count ∙ ap length same ∙ length-map-range_with_len f 0 n in
      is ∙ ap (gvar_bytes front shared (λ g. slice_index_or listed g [])) size
      ∙ made_of_listed front shared f n listed same ∙ (λ i. gvar_bytes (fronts i) (tuples i) f n)

  pub made_short : length t ≤ MAX_FILE → m < 65536 → length front ≡ 8 → length (concat listed) ≤ MAX_FILE + MAX_FILE
      → length made ≤ MAX_TABLE
  made_short short low eight size =
      let long = ap length is ∙ length-made front shared (λ g. slice_index_or listed g []) m eight in
      let all = ap (λ (l : List (List ℕ)). length (concat l)) (listed_by_index listed m count) in
      let place = place_fits t shared m tuples short low in
      omega arith

-- the table of a content with other data
pub table_with : (c : Tables) (v : List ℕ × ℕ) → opened_gvar c ≡ Some v → (f : ℕ → List ℕ) (n : ℕ) → n ≡ v.1
    → (made : List ℕ) → made ≡ gvar_with f n v.0 → Some made ≡ option_map (gvar_with f (glyph_count c)) (c GVAR)
table_with c v opened f n count made is =
    let w = opened_some c v opened in
    (λ i. Some ((is ∙ ap (λ (k : ℕ). gvar_with f k v.0) (count ∙ sym w.1)) i))
    ∙ sym (ap (option_map (gvar_with f (glyph_count c))) w.0)

-- data that are listed one after the other
none_more : (n : ℕ) → 0 + n ≡ n
none_more n = omega arith

pub listed_more : (old now : List (List ℕ)) (bytes : List ℕ) (f : ℕ → List ℕ) (n : ℕ) → now ≡ old ++ bytes ∷ []
    → old ≡ listed_data f n → bytes ≡ f n → now ≡ listed_data f (n + 1)
listed_more old now bytes f n is all one =
    is ∙ (λ i. all i ++ one i ∷ []) ∙ sym (map-range_with_len_more f 0 n n (none_more n))

pub listed_count : {X : Type 0} (bytes : X → List ℕ) (xs : List X) (f : ℕ → List ℕ) (n : ℕ)
    → map bytes xs ≡ listed_data f n → length xs ≡ n
listed_count bytes xs f n all = sym (length-map xs bytes) ∙ ap length all ∙ length-map-range_with_len f 0 n

-- where there are none they are short
pub nothing_long : (n : ℕ) → length (concat (listed_data (λ _. []) n)) ≡ 0
nothing_long n = listed_none (λ _. []) n 0 (λ j. refl)

-- for each glyph below a given one its data where it is kept, and nothing else
pub record AreDataTo (K : Content) (gvar : List ℕ) (listed : List (List ℕ)) (to : ℕ) : Type 0 where
  pub count : length listed ≡ glyph_count K.copied
  pub below :
      (g : ℕ) → g < to → g < length listed → get_or listed g []
      ≡ cond (is_some (K.outline g)) (data_of gvar g) []
  pub above : (g : ℕ) → to ≤ g → get_or listed g [] ≡ []
  pub here : to < length listed → is_some (K.outline to) ≡ true

abbrev no_bytes : List ℕ
no_bytes = []

nothing_at : (n g : ℕ) → get_or (replicate n no_bytes) g no_bytes ≡ no_bytes
nothing_at zero g = refl
nothing_at (suc n) zero = refl
nothing_at (suc n) (suc g) = nothing_at n g

pub data_start : (K : Content) (gvar : List ℕ) (listed : List (List ℕ)) (n next : ℕ) → listed ≡ replicate n []
    → n ≡ glyph_count K.copied → IsNextKept K 0 next → AreDataTo K gvar listed next
data_start K gvar listed n next is count kept =
    let nothing : (g : ℕ) → get_or listed g [] ≡ [] =
    λ g. ap (λ (l : List (List ℕ)). get_or l g []) is ∙ nothing_at n g in
    let long : length listed ≡ glyph_count K.copied = ap length is ∙ length-replicate n no_bytes ∙ count in
    record {
      count = long;
      below = λ g low within. nothing g
          ∙ sym (ap (λ (o : Option (List ℕ)). cond (is_some o) (data_of gvar g) []) (kept.passed g (omega arith) low));
      above = λ g past. nothing g;
      here = λ low. kept.kept (omega (arith, low, long));
    }

pub data_step : (K : Content) (gvar : List ℕ) (old new : List (List ℕ)) (g next : ℕ) (bytes : List ℕ)
    → AreDataTo K gvar old g → g < length old → bytes ≡ data_of gvar g
    → new ≡ slice_set old g bytes → IsNextKept K (g + 1) next → AreDataTo K gvar new next
data_step K gvar old new g next bytes are low is set kept =
    let same : (h : ℕ) → h ≢ g → get_or new h [] ≡ get_or old h [] = λ h other.
    ap (λ (l : List (List ℕ)). get_or l h []) set ∙ get_or-set_other old g h bytes [] other in
    let at : get_or new g [] ≡ data_of gvar g =
    ap (λ (l : List (List ℕ)). get_or l g []) set ∙ get_or-set_same old g bytes [] low ∙ is in
    let long : length new ≡ length old = ap length set ∙ length-set old g bytes in
    record {
      count = long ∙ are.count;
      below = λ h before within.
          elim (cases_lt h g) [
            | inl less ↦ same h (λ e. omega (arith, e, less)) ∙ are.below h less (omega (arith, within, long))
            | inr more ↦ elim (cases_eq h g) [
              | inl e ↦
                  subst (λ (k : ℕ). get_or new k [] ≡ cond (is_some (K.outline k)) (data_of gvar k) [])
                  (sym e) (at ∙ sym (ap (λ b. cond b (data_of gvar g) []) (are.here low)))
              | inr other ↦
                  same h other ∙ are.above h more
                  ∙ sym (ap (λ (o : Option (List ℕ)). cond (is_some o) (data_of gvar h) [])
                  (kept.passed h (omega (arith, more, other)) before))
            ]
          ];
      above = λ h past. same h (λ e. let from = kept.from_on in omega (arith, e, past, from))
          ∙ are.above h (let from = kept.from_on in omega (arith, past, from));
      here = λ within. kept.kept (let count = are.count in omega (arith, within, long, count));
    }

-- no data at all
pub listed_nothing : (n : ℕ) → replicate n no_bytes ≡ listed_data (λ _. []) n
listed_nothing n =
    let none : ℕ → List ℕ = λ _. [] in
    let size = length-map-range_with_len none 0 n in
    let long = length-replicate n no_bytes in
    ext_get_or [] (replicate n no_bytes) (listed_data none n) (long ∙ sym size)
    (λ g low. nothing_at n g ∙ sym (get_or-map-range_with_len none 0 n g g [] (omega (arith, low, long)) (omega arith)))

-- past all glyphs it has the data of all that are kept
pub data_end : (K : Content) (gvar : List ℕ) (listed : List (List ℕ)) (to n : ℕ) → n ≡ glyph_count K.copied → n ≤ to
    → AreDataTo K gvar listed to → listed ≡ listed_data (λ g. cond (is_some (K.outline g)) (data_of gvar g) []) n
data_end K gvar listed to n count past are =
    let kept : ℕ → List ℕ = λ g. cond (is_some (K.outline g)) (data_of gvar g) [] in
    let size = length-map-range_with_len kept 0 n in
    let long = are.count in
    ext_get_or [] listed (listed_data kept n) (omega (arith, long, count, size))
    (λ g low. are.below g (omega (arith, low, long, count, past)) low
    ∙ sym (get_or-map-range_with_len kept 0 n g g [] (omega (arith, low, long, count)) (omega arith)))

-- a list that has one slice so many times
pub map_repeated : {X : Type 0} (f : X → List ℕ) (n : ℕ) (x : X) → map f (replicate n x) ≡ replicate n (f x)
map_repeated f zero x = refl
map_repeated f (suc n) x = ap (λ (l : List (List ℕ)). f x ∷ l) (map_repeated f n x)

-- what is refused of a `gvar`
pub bad_gvar : (c : Tables) (t : List ℕ) (f : Option (List ℕ)) (n : ℕ) (bad : Bool) → Some t ≡ c GVAR → f ≡ c FVAR
    → n ≡ glyph_count c → is_bad_variations t f n ≡ bad → is_bad_in GVAR c ≡ bad
unfolding context glyph_count
bad_gvar c t f n bad there axes count is =
    ap (λ o. option_map_or (λ gvar. is_bad_variations gvar (c FVAR) (glyph_count c)) o false) (sym there)
    ∙ sym (λ i. is_bad_variations t (axes i) (count i)) ∙ is

pub no_gvar : (c : Tables) → None ≡ c GVAR → is_bad_in GVAR c ≡ false
no_gvar c none = ap (λ (o : Option (List ℕ)). option_map_or (is_bad_at GVAR (context c)) o false) (sym none)

pub opened_at : (c : Tables) (t : List ℕ) (n : ℕ) (v : List ℕ × ℕ) → Some t ≡ c GVAR → n ≡ glyph_count c → v ≡ (t, n)
    → Some v ≡ opened_gvar c
opened_at c t n v there count is =
    ap Some (is ∙ ap (λ (m : ℕ). (t, m)) count) ∙ ap (option_map (λ (x : List ℕ). (x, glyph_count c))) there

pub opened_nowhere : (c : Tables) → None ≡ c GVAR → None ≡ opened_gvar c
opened_nowhere c none = ap (option_map (λ (x : List ℕ). (x, glyph_count c))) none

-- variation data in the words of divided tables
pub gvar_framed : (c : Tables) → option_map (gvar_with (λ _. []) (glyph_count c)) (c GVAR)
    ≡ frames (alone variations) c GVAR
unfolding frames variations
gvar_framed c = sym (λ i. option_map (gvar_with (λ _. []) (count-context c i)) (c GVAR))

pub gvar_parts_are : (c : Tables) (v : OpenVariations) → AreVariationsOf c v
    → ArePartsIn variations GVAR c (variations_parts v)
gvar_parts_are c v is = record {
  count_is = is.count_is;
  parts_are = λ g low. ap (λ o. data_in o g) is.gvar_is ∙ data_opened c g
      ∙ sym (part-data c g (subst (λ (n : ℕ). g < n) is.count_is low))
      ∙ parts_of-alike by_variations (alone variations) c GVAR refl g;
}

module _ (K : Content) where
  pub gvar_kept : (t : List ℕ) (f : Option (List ℕ)) → K.copied GVAR ≡ Some t
      → is_bad_variations t f (glyph_count K.copied) ≡ false
      → Some (gvar_with (λ g. cond (is_some (K.outline g)) (data_of t g) []) (glyph_count K.copied) t)
      ≡ (reduced (alone variations) K).copied GVAR
  unfolding reduced variations context glyph_count
  gvar_kept t f e ok = sym (ap (option_map _) e ∙ ap Some (gvar_with-again _ (λ _. []) (glyph_count K.copied) t f ok))

  pub gvar_missing : K.copied GVAR ≡ None → K.copied GVAR ≡ (reduced (alone variations) K).copied GVAR
  unfolding reduced
  gvar_missing e = e ∙ sym (ap (option_map _) e)

-- so a union has a `gvar` that is made of the data of both
module _ (C E : Content) (c : Tables) (P Q : ℕ → List ℕ) (are : AreJoinable variations GVAR C E c P Q) where
  abbrev n : ℕ
  n = glyph_count c

  abbrev R : ℕ → List ℕ
  R g = cond (is_some (C.outline g)) (P g) (Q g)

  count_first : glyph_count C.copied ≡ n
  count_first = sym (count-context C.copied) ∙ ap glyph_count are.context_first ∙ count-context c

  there : (D : Content) (S : ℕ → List ℕ) (f : List ℕ) → c GVAR ≡ Some f
      → D.copied GVAR ≡ option_map (λ frame. variations.whole (context c) frame S) (c GVAR)
      → D.copied GVAR ≡ Some (gvar_with S n f)
  unfolding variations
  there D S f e is = is ∙ ap (option_map (λ frame. gvar_with S (glyph_count (context c)) frame)) e
      ∙ ap (λ (m : ℕ). Some (gvar_with S m f)) (count-context c)

  module _ (f : List ℕ) (e : c GVAR ≡ Some f) where
    good : is_bad_variations f (c FVAR) n ≡ false
    unfolding context glyph_count
    good = are.frame_good f e

    data_at_glyph : (D : Content) (S : ℕ → List ℕ) → D.copied GVAR ≡ Some (gvar_with S n f) → (g : ℕ) → g < n
        → variation_data D.copied g ≡ S g
    unfolding variation_data
    data_at_glyph D S is g low =
        ap (λ (o : Option (List ℕ)). data_of (unwrap_or o []) g) is
        ∙ (made_read (front_of f) (shared_tuples_of f) S n (parts_fit f (c FVAR) n good)).data_is g low

    first : C.copied GVAR ≡ Some (gvar_with P n f)
    first = there C P f e are.first

    second : E.copied GVAR ≡ Some (gvar_with Q n f)
    second = there E Q f e are.second

    united_some : united_gvar C E ≡ Some (gvar_with R n f)
    united_some =
        (λ i. option_map (gvar_with (either_data C E) (count_first i)) (first i))
        ∙ ap Some (gvar_with-again (either_data C E) P n f (c FVAR) good
        ∙ ap (λ w. w f) (gvar_with-same (either_data C E) R n
        (λ g low. (λ i. cond (is_some (C.outline g)) (data_at_glyph C P first g low i)
        (data_at_glyph E Q second g low i)))))

  united_by : (o : Option (List ℕ)) → c GVAR ≡ o → made_or_laid (united_gvar C E) (C.copied GVAR)
      (table_in_slot E.copied GVAR) ≡ option_map (λ frame. variations.whole (context c) frame R) (c GVAR)
  unfolding variations
  united_by None e =
      let none : C.copied GVAR ≡ None = are.first ∙ ap (option_map _) e in
      (λ i. made_or_laid (option_map (gvar_with (either_data C E) (glyph_count C.copied)) (none i)) (none i)
      (table_in_slot E.copied GVAR)) ∙ sym (ap (option_map _) e)
  united_by (Some f) e =
      (λ i. made_or_laid (united_some f e i) (C.copied GVAR) (table_in_slot E.copied GVAR))
      ∙ sym (ap (option_map (λ frame. gvar_with R (glyph_count (context c)) frame)) e
      ∙ ap (λ (m : ℕ). Some (gvar_with R m f)) (count-context c))

pub gvar_united : (C E : Content) (made : Option (List ℕ)) → made ≡ united_gvar C E
    → IsUnionOf variations GVAR C E made
gvar_united C E made is = λ c P Q are fit.
    ap (λ m. made_or_laid m (C.copied GVAR) (table_in_slot E.copied GVAR)) is
    ∙ united_by C E c P Q are (c GVAR) refl
