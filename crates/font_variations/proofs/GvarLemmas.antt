-- What is known of a `gvar` that is not refused.
use Rattle.std.proofs.Common.{◌≡◌, ℕ, ◌+◌, ◌-◌, ◌<◌, ◌≤◌, false, not, eqb, inl, inr, List, length}
use Rattle.std.proofs.Common.{Option, get_or, arith, ap, sym, ◌∙◌, length-drop}
use Rattle.std.specs.List.{range_with_len}
use Rattle.std.proofs.lemmas.Bool.{and_cases, eqb-true, ltb-false, not-false, or_parts}
use Rattle.std.proofs.lemmas.List.FromFn.{get_or-range_with_len, length-range_with_len}
use Rattle.sfnt_bytes.proofs.LineLemmas.{find-none_at}
use Rattle.font_tables.specs.Outlines.{HasOutline}
use Rattle.font_tables.specs.Refusals.{is_bad_offset}
use Rattle.font_tables.specs.declared.loca.LocaForm.{LocaForm}
use Rattle.font_tables.proofs.OffsetLemmas.{IsGoodOffset, is_good_offset, none_is_bad}
use Rattle.font_variations.specs.Gvar.{data_array_offset, data_offset, end_of_offsets, from_data}
use Rattle.font_variations.specs.Gvar.{from_offsets, has_bad_tuples, has_falling_offset, IsAccepted}
use Rattle.font_variations.specs.Gvar.{is_bad_variations, offset_form, shared_tuple_count}
use Rattle.font_variations.proofs.FallLemmas.{falls_is_any}
use Rattle.font_variations.specs.Inside.{HasSharedTuples, has_bad_header, IsOpenedGvar}

-- the refusals, one by one
pub record IsGood (gvar : List ℕ) (fvar : Option (List ℕ)) (glyphs : ℕ) : Type 0 where
  pub header : has_bad_header gvar fvar glyphs ≡ false
  pub whole : end_of_offsets gvar glyphs ≤ length gvar
  pub shared : has_bad_tuples gvar (end_of_offsets gvar glyphs) ≡ false
  pub rises : has_falling_offset gvar glyphs ≡ false
  pub inside : data_array_offset gvar + data_offset gvar glyphs ≤ length gvar

pub is_good : (gvar : List ℕ) (fvar : Option (List ℕ)) (glyphs : ℕ) → is_bad_variations gvar fvar glyphs ≡ false
    → IsGood gvar fvar glyphs
unfolding is_bad_variations has_bad_header
is_good gvar fvar glyphs h =
    let last = or_parts _ _ h in
    let falling = or_parts _ _ last.0 in
    let tuples = or_parts _ _ falling.0 in
    let offsets = or_parts _ _ tuples.0 in
    record {
      header = offsets.0;
      whole = ltb-false _ _ offsets.1;
      shared = tuples.1;
      rises = falling.1;
      inside = ltb-false _ _ last.1;
    }

-- where the parts of a table stand that is not refused
pub has_header : (gvar : List ℕ) (fvar : Option (List ℕ)) (glyphs : ℕ) → is_bad_variations gvar fvar glyphs ≡ false
    → 20 ≤ length gvar
has_header gvar fvar glyphs h = let whole = (is_good gvar fvar glyphs h).whole in omega arith

pub has_array : (gvar : List ℕ) (fvar : Option (List ℕ)) (glyphs : ℕ) → is_bad_variations gvar fvar glyphs ≡ false
    → data_array_offset gvar ≤ length gvar
has_array gvar fvar glyphs h = let inside = (is_good gvar fvar glyphs h).inside in omega arith

pub has_shared_tuples : (gvar : List ℕ) (fvar : Option (List ℕ)) (glyphs : ℕ)
    → is_bad_variations gvar fvar glyphs ≡ false → HasSharedTuples gvar
unfolding has_bad_tuples
has_shared_tuples gvar fvar glyphs h some =
    let tuples = and_cases (not (eqb (shared_tuple_count gvar) 0)) _ (is_good gvar fvar glyphs h).shared in
    elim tuples [
      | inl none ↦ let zero = eqb-true (shared_tuple_count gvar) 0 (not-false _ none) in absurd (omega arith)
      | inr whole ↦ ltb-false _ _ (or_parts _ _ whole).1
    ]

-- the offset of a glyph is whole, leads into the data, and is not below the one before it
pub good_offset : (gvar : List ℕ) (glyphs j : ℕ) → IsAccepted gvar glyphs → j ≤ glyphs
    → IsGoodOffset (offset_form gvar) (from_offsets gvar) (length (from_data gvar)) j
good_offset gvar glyphs j sound low =
    let form = offset_form gvar in
    let offsets = from_offsets gvar in
    let good = is_good gvar sound.fvar glyphs sound.accepted in
    let end = good.whole in
    let inside = good.inside in
    let left = length-drop 20 gvar in
    let after = length-drop (data_array_offset gvar) gvar in
    let none = none_is_bad form offsets (length (from_data gvar)) glyphs (omega arith) (omega arith)
    (falls_is_any form offsets glyphs ∙ good.rises) in
    let range = range_with_len 0 (glyphs + 1) in
    let long : j < length range = omega (arith, length-range_with_len 0 (glyphs + 1)) in
    let at : get_or range j 0 ≡ 0 + j = get_or-range_with_len 0 (glyphs + 1) j 0 (omega arith) in
    let here : get_or range j 0 ≡ j = omega arith in
    let bad = is_bad_offset form offsets (length (from_data gvar)) in
    is_good_offset form offsets (length (from_data gvar)) j
    (ap bad (sym here) ∙ find-none_at bad range j 0 none long)

-- what a look-up of data needs
pub has_data : (gvar offsets array shared : List ℕ) (form : LocaForm) (glyphs g : ℕ)
    → IsOpenedGvar gvar offsets array shared form glyphs → g < glyphs → HasOutline form offsets array g
has_data gvar offsets array shared form glyphs g kept low =
    rw (kept.offsets_is, kept.array_is, kept.form_is)
    (let here = good_offset gvar glyphs g kept.sound (omega arith) in
    let next = good_offset gvar glyphs (g + 1) kept.sound (omega arith) in
    let back : g + 1 - 1 ≡ g = omega arith in
    let rises = next.rises (omega arith) in
    record { start = here.whole; end = next.whole; ordered = rw back at rises; inside = next.inside })
