-- The laws of a `gvar`.
use Rattle.std.proofs.Common.{◌≡◌, ℕ, zero, suc, ◌+◌, ◌-◌, ◌*◌, ◌<◌, ◌≤◌, Bool, true, false, ltb, ◌&&◌, List, ◌∷◌}
use Rattle.std.proofs.Common.{◌++◌, map, take, drop, length, length-drop, refl, sym, ap, ◌∙◌, arith, Option, inl, inr}
use Rattle.std.specs.List.{concat, range_with_len}
use Rattle.std.proofs.lemmas.Bool.{cases_lt, eq-eqb, eqb-true, le-ltb, ltb-false, not-false, not_from_true}
use Rattle.std.proofs.lemmas.Bool.{or_from, or_parts}
use Rattle.std.proofs.lemmas.List.{length-take, take-append-drop}
use Rattle.sfnt_bytes.specs.Number.{u16_at, u32_at}
use Rattle.font_tables.specs.Outlines.{falls, offset_at, offset_size}
use Rattle.font_tables.specs.declared.loca.LocaForm.{LocaForm}
use Rattle.font_tables.specs.declared.loca.LocaForm.TheVariants.{Long}
use Rattle.font_variations.specs.Gvar.{axis_count, data_array_offset, data_of, data_offset, end_of_offsets}
use Rattle.font_variations.specs.Gvar.{from_offsets, front_of, fvar_axis_count, gvar_version, has_bad_tuples}
use Rattle.font_variations.specs.Gvar.{has_falling_offset, is_bad_variations, offset_form, present, shared_tuple_count}
use Rattle.font_variations.specs.Gvar.{shared_tuples_length, shared_tuples_of, shared_tuples_offset}
use Rattle.font_variations.specs.Inside.{has_bad_header}
use Rattle.font_variations.specs.Laws.{IsMadeOf, MadeAgain}
use Rattle.font_variations.specs.MadeGvar.{data_at, gvar_bytes, HasAxes, IsForGvar, listed_data, offset_bytes}
use Rattle.font_variations.specs.MadeGvar.{tuples_at, u16_bytes, u32_bytes}
use Rattle.font_variations.proofs.DataLemmas.{falls-offset_bytes, last_offset}
use Rattle.font_variations.proofs.FallLemmas.{falls_is_any}
use Rattle.font_variations.proofs.GvarLemmas.{good_offset, has_array, has_shared_tuples, is_good}
use Rattle.font_variations.proofs.MadeLemmas.{axis_count-made, data_array_offset-made, data_of-made, drop-header}
use Rattle.font_variations.proofs.MadeLemmas.{flags-made, front_of-made, glyph_count-made, gvar_version-made}
use Rattle.font_variations.proofs.MadeLemmas.{length-listed, length-made, offset_form-made, shared_tuples_of-made}
use Rattle.font_variations.proofs.MadeLemmas.{shared_tuples_offset-made, tuples_length}
use Rattle.font_variations.proofs.NumberLemmas.{u16_at-front, u32_at-front}

and_nothing : (x y : Bool) → y ≡ false → (x && y) ≡ false
and_nothing true y h = h
and_nothing false y h = refl

-- data that agree glyph by glyph
pub listed_same : (f g : ℕ → List ℕ) (k n : ℕ) → ((j : ℕ) → j < k + n → f j ≡ g j)
    → map f (range_with_len k n) ≡ map g (range_with_len k n)
listed_same f g k zero same = refl
listed_same f g k (suc n) same =
    let first = same k (omega arith) in
    let rest = listed_same f g (k + 1) n (λ j low. same j (omega arith)) in
    λ i. first i ∷ rest i

-- what is made is accepted
module _ (front shared : List ℕ) (of_glyph : ℕ → List ℕ) (n : ℕ) (fit : IsForGvar front shared) where
  abbrev eight : length front ≡ 8
  eight = fit.size

  abbrev made : List ℕ
  made = gvar_bytes front shared of_glyph n

  abbrev listed : List (List ℕ)
  listed = listed_data of_glyph n

  -- what begins with the offsets
  abbrev rest : List ℕ
  rest = shared ++ concat listed

  ends_there : end_of_offsets made n ≡ tuples_at n
  ends_there =
      let form = offset_form-made front shared of_glyph n eight in
      ap (λ (f : LocaForm). 20 + offset_size f * (n + 1)) form

  header : (fvar : Option (List ℕ)) → HasAxes front fvar → has_bad_header made fvar n ≡ false
  unfolding has_bad_header
  header fvar axes =
      let size = length-made front shared of_glyph n eight in
      let version = gvar_version-made front shared of_glyph n eight ∙ fit.version in
      let count = axis_count-made front shared of_glyph n eight ∙ axes.same in
      let glyphs = glyph_count-made front shared of_glyph n eight in
      let no_flags = ap (λ (f : ℕ). ltb 1 f) (flags-made front shared of_glyph n eight) in
      or_from _ _ (or_from _ _ (or_from _ _ (or_from _ _ (or_from _ _ (le-ltb _ _ (omega arith))
      (not_from_true _ (eq-eqb _ _ version))) (le-ltb _ _ axes.whole)) (not_from_true _ (eq-eqb _ _ count)))
      (not_from_true _ (eq-eqb _ _ glyphs))) no_flags

  lead_inside : data_array_offset made + data_offset made n ≤ length made
  lead_inside =
      let size = length-made front shared of_glyph n eight in
      let start = data_array_offset-made front shared of_glyph n eight in
      let form = offset_form-made front shared of_glyph n eight in
      let begins = drop-header front shared of_glyph n eight in
      let count = length-listed front shared of_glyph n eight in
      let last : data_offset made n ≡ length (concat listed) =
      (λ i. offset_at (form i) (begins i) n) ∙ ap (offset_at Long (offset_bytes listed ++ rest)) (sym count)
      ∙ last_offset listed rest in
      omega arith

  no_fall : has_falling_offset made n ≡ false
  no_fall =
      let form = offset_form-made front shared of_glyph n eight in
      let begins = drop-header front shared of_glyph n eight in
      let count = length-listed front shared of_glyph n eight in
      sym (falls_is_any (offset_form made) (from_offsets made) n) ∙ (λ i. falls (form i) (begins i) n)
      ∙ falls-offset_bytes listed rest n (omega arith)

  tuples_inside : has_bad_tuples made (end_of_offsets made n) ≡ false
  unfolding has_bad_tuples
  tuples_inside =
      let size = length-made front shared of_glyph n eight in
      let start = shared_tuples_offset-made front shared of_glyph n eight in
      let long = tuples_length front shared of_glyph n eight in
      let there = ends_there in
      let stated = fit.tuples in
      let before : ltb (shared_tuples_offset made) (end_of_offsets made n) ≡ false = le-ltb _ _ (omega arith) in
      let after : ltb (length made) (shared_tuples_offset made + shared_tuples_length made) ≡ false =
      le-ltb _ _ (omega arith) in
      and_nothing _ _ (or_from _ _ before after)

  pub made_accepted : (fvar : Option (List ℕ)) → HasAxes front fvar → is_bad_variations made fvar n ≡ false
  unfolding is_bad_variations has_bad_header
  made_accepted fvar axes =
      let size = length-made front shared of_glyph n eight in
      let there = ends_there in
      or_from _ _ (or_from _ _ (or_from _ _ (or_from _ _ (header fvar axes) (le-ltb _ _ (omega arith))) tuples_inside)
      no_fall) (le-ltb _ _ lead_inside)

  pub made_read : IsMadeOf made front shared of_glyph n
  made_read = record {
    front_is = front_of-made front shared of_glyph n eight;
    shared_is = shared_tuples_of-made front shared of_glyph n eight fit.tuples;
    data_is = data_of-made front shared of_glyph n eight;
  }

  pub made_again : MadeAgain made n
  unfolding gvar_bytes
  made_again =
      let front_is = made_read.front_is in
      let shared_is = made_read.shared_is in
      let listed_is = listed_same (data_of made) of_glyph 0 n (λ g low. made_read.data_is g (omega arith)) in
      let place = ap (λ (s : List ℕ). u32_bytes (data_at s n)) shared_is in
      λ i. front_is i ++ (u32_bytes (tuples_at n) ++ (u16_bytes n ++ (u16_bytes 1 ++ (place i
      ++ (offset_bytes (listed_is i) ++ (shared_is i ++ concat (listed_is i)))))))

-- the first 8 bytes of a table, as they stand in it
front_is : (gvar : List ℕ) → 20 ≤ length gvar → length (front_of gvar) ≡ 8
unfolding front_of
front_is gvar long = omega (arith, length-take 8 gvar)

version_of_front : (gvar : List ℕ) → 20 ≤ length gvar → gvar_version (front_of gvar) ≡ gvar_version gvar
unfolding front_of gvar_version
version_of_front gvar long =
    let eight = front_is gvar long in
    sym (u32_at-front (take 8 gvar) (drop 8 gvar) 0 (omega arith))
    ∙ ap (λ (b : List ℕ). u32_at b 0) (take-append-drop 8 gvar)

axes_of_front : (gvar : List ℕ) → 20 ≤ length gvar → axis_count (front_of gvar) ≡ axis_count gvar
unfolding front_of axis_count
axes_of_front gvar long =
    let eight = front_is gvar long in
    sym (u16_at-front (take 8 gvar) (drop 8 gvar) 4 (omega arith))
    ∙ ap (λ (b : List ℕ). u16_at b 4) (take-append-drop 8 gvar)

count_of_front : (gvar : List ℕ) → 20 ≤ length gvar → shared_tuple_count (front_of gvar) ≡ shared_tuple_count gvar
unfolding front_of shared_tuple_count
count_of_front gvar long =
    let eight = front_is gvar long in
    sym (u16_at-front (take 8 gvar) (drop 8 gvar) 6 (omega arith))
    ∙ ap (λ (b : List ℕ). u16_at b 6) (take-append-drop 8 gvar)

-- what the header of an accepted table says
pub record IsHeader (gvar : List ℕ) (fvar : Option (List ℕ)) : Type 0 where
  pub long : 20 ≤ length gvar
  pub version : gvar_version gvar ≡ 0x00010000
  pub whole : 10 ≤ length (present fvar)
  pub same : axis_count gvar ≡ fvar_axis_count (present fvar)

is_header : (gvar : List ℕ) (fvar : Option (List ℕ)) (n : ℕ) → has_bad_header gvar fvar n ≡ false → IsHeader gvar fvar
unfolding has_bad_header
is_header gvar fvar n h =
    let glyphs = or_parts _ _ (or_parts _ _ h).0 in
    let axes = or_parts _ _ glyphs.0 in
    let few = or_parts _ _ axes.0 in
    let version = or_parts _ _ few.0 in
    record {
      long = ltb-false _ _ version.0;
      version = eqb-true _ _ (not-false _ version.1);
      whole = ltb-false _ _ few.1;
      same = eqb-true _ _ (not-false _ axes.1);
    }

nothing_shared : (count axes : ℕ) → count ≡ 0 → 2 * axes * count ≡ 0
nothing_shared count axes none = ap (λ (c : ℕ). 2 * axes * c) none ∙ omega arith

-- the shared tuples of an accepted table have the length that it states
length-shared : (gvar : List ℕ) → (0 < shared_tuple_count gvar
    → shared_tuples_offset gvar + shared_tuples_length gvar ≤ length gvar) → length (shared_tuples_of gvar)
    ≡ shared_tuples_length gvar
unfolding shared_tuples_of
length-shared gvar inside =
    let size = length-take (shared_tuples_length gvar) (drop (shared_tuples_offset gvar) gvar) in
    let left = length-drop (shared_tuples_offset gvar) gvar in
    elim (cases_lt 0 (shared_tuple_count gvar)) [
      | inl some ↦ let all = inside some in omega arith
      | inr none ↦ let zero = nothing_shared (shared_tuple_count gvar) (axis_count gvar) (omega arith) in omega arith
    ]

-- the first 8 bytes and the shared tuples of an accepted table are such as a table is made of
pub parts_fit : (gvar : List ℕ) (fvar : Option (List ℕ)) (n : ℕ) → is_bad_variations gvar fvar n ≡ false
    → IsForGvar (front_of gvar) (shared_tuples_of gvar)
parts_fit gvar fvar n h =
    let known = is_header gvar fvar n (is_good gvar fvar n h).header in
    let axes = axes_of_front gvar known.long in
    let count = count_of_front gvar known.long in
    let long : shared_tuples_length (front_of gvar) ≡ shared_tuples_length gvar = λ i. 2 * axes i * count i in
    record {
      size = front_is gvar known.long;
      version = version_of_front gvar known.long ∙ known.version;
      tuples = length-shared gvar (has_shared_tuples gvar fvar n h) ∙ sym long;
    }

pub parts_accepted : (gvar : List ℕ) (fvar : Option (List ℕ)) (n : ℕ) (of_glyph : ℕ → List ℕ)
    → is_bad_variations gvar fvar n ≡ false
    → is_bad_variations (gvar_bytes (front_of gvar) (shared_tuples_of gvar) of_glyph n) fvar n ≡ false
parts_accepted gvar fvar n of_glyph h =
    let known = is_header gvar fvar n (is_good gvar fvar n h).header in
    let axes = axes_of_front gvar known.long in
    made_accepted (front_of gvar) (shared_tuples_of gvar) of_glyph n (parts_fit gvar fvar n h) fvar
    (record { whole = known.whole; same = axes ∙ known.same })

-- offsets of an accepted table lead into it
pub lead_in_order : (gvar : List ℕ) (fvar : Option (List ℕ)) (n j : ℕ) → is_bad_variations gvar fvar n ≡ false → j < n
    → (data_offset gvar j ≤ data_offset gvar (j + 1))
    × (data_array_offset gvar + data_offset gvar (j + 1) ≤ length gvar)
lead_in_order gvar fvar n j h low =
    let next = good_offset gvar n (j + 1) (record { fvar = fvar; accepted = h }) (omega arith) in
    let back : j + 1 - 1 ≡ j = omega arith in
    let rises = next.rises (omega arith) in
    let inside = next.inside in
    let starts = has_array gvar fvar n h in
    let left = length-drop (data_array_offset gvar) gvar in
    (rw back at rises, omega arith)
