-- Runs of glyphs that are not there.
use Rattle.std.proofs.Common.{◌≡◌, ℕ, zero, suc, ◌+◌, ◌-◌, ◌<◌, ◌≤◌, Bool, true, false, ◌&&◌, ◌||◌, inl}
use Rattle.std.proofs.Common.{inr, nat_lt}
use Rattle.std.proofs.Common.{List, None, [], drop, length, refl, sym, ◌∙◌, ap, arith}
use Rattle.std.proofs.Common.{unwrap_or}
use Rattle.std.proofs.lemmas.Bool.{cases_lt, le-leb, le-ltb, lt-leb, lt-ltb}
use Rattle.std.proofs.lemmas.List.{length-take}
use Rattle.sfnt_bytes.specs.Directory.{kept_tag, table_of}
use Rattle.sfnt_bytes.specs.declared.tag.TheConstants.{LOCA}
use Rattle.font_tables.specs.Fields.{glyph_count_of, loca_form_of}
use Rattle.font_tables.specs.Outlines.{offset_at, outline_of}
use Rattle.font_tables.specs.Refusals.{table_fault}
use Rattle.font_tables.specs.Tables.{glyf_of, loca_of, loca_tag, table_or_empty}
use Rattle.font_tables.proofs.TableLemmas.{has_outline}
use Rattle.font_subset.specs.Inside.{AreNumbered, is_between}
use Rattle.font_subset.proofs.PresenceLemmas.{numbered_none}

-- `loca` of a file
pub loca_is : (file : List ℕ) → unwrap_or (table_of file (kept_tag LOCA)) [] ≡ loca_of file
unfolding kept_tag table_or_empty loca_tag
loca_is file = refl

-- offsets do not fall
module _ (file : List ℕ) (sound : table_fault file ≡ None) where
  rises : (g : ℕ) → g < glyph_count_of file
      → offset_at (loca_form_of file) (loca_of file) g ≤ offset_at (loca_form_of file) (loca_of file) (g + 1)
  rises g low = (has_outline file (loca_of file) (glyf_of file) (loca_form_of file) g sound refl refl refl low).ordered

  climbs : (a n : ℕ) → a + n ≤ glyph_count_of file
      → offset_at (loca_form_of file) (loca_of file) a ≤ offset_at (loca_form_of file) (loca_of file) (a + n)
  climbs a zero within =
      let e : a + 0 ≡ a = omega arith in
      let same = ap (λ (m : ℕ). offset_at (loca_form_of file) (loca_of file) m) e in
      omega (arith, same)
  climbs a (suc n) within =
      let first = climbs a n (omega (arith, within)) in
      let next = rises (a + n) (omega (arith, within)) in
      let e : a + n + 1 ≡ a + suc n = omega arith in
      let same = ap (λ (m : ℕ). offset_at (loca_form_of file) (loca_of file) m) e in
      omega (arith, first, next, same)

  pub no_outlines : (a b : ℕ) → b ≤ glyph_count_of file
      → offset_at (loca_form_of file) (loca_of file) a ≡ offset_at (loca_form_of file) (loca_of file) b
      → (g : ℕ) → a ≤ g → g < b → length (outline_of file g) ≡ 0
  unfolding outline_of
  no_outlines a b within same g low high =
      let before : a + (g - a) ≡ g = omega (arith, low) in
      let after : g + 1 + (b - g - 1) ≡ b = omega (arith, high) in
      let up = climbs a (g - a) (omega (arith, before, high, within)) in
      let on = climbs (g + 1) (b - g - 1) (omega (arith, after, within)) in
      let x = ap (λ (m : ℕ). offset_at (loca_form_of file) (loca_of file) m) before in
      let y = ap (λ (m : ℕ). offset_at (loca_form_of file) (loca_of file) m) after in
      omega (
        arith,
        up,
        on,
        x,
        y,
        same,
        length-take (offset_at (loca_form_of file) (loca_of file) (g + 1)
            - offset_at (loca_form_of file) (loca_of file) g)
            (drop (offset_at (loca_form_of file) (loca_of file) g) (glyf_of file)),
      )

pub below_more : (low high h : ℕ) → low ≤ high → nat_lt h high ≡ (nat_lt h low || is_between low high h)
below_more low high h order = elim (cases_lt h low) [
  | inl below ↦
      let y = lt-ltb h low below in let z = lt-ltb h high (omega (arith, below, order)) in
      z ∙ sym (λ i. y i || is_between low high h)
  | inr past ↦
      let x = le-leb low h past in let y = le-ltb h low past in
      sym (λ i. y i || (x i && nat_lt h high))
]

-- where none is there nothing is marked
pub none_between : (there : ℕ → Bool) (low high : ℕ) (marks : List Bool)
    → ((g : ℕ) → low ≤ g → g < high → there g ≡ false) → AreNumbered there (is_between low high) marks marks
none_between there low high marks none = numbered_none there (is_between low high) marks (λ g.
    elim (cases_lt g low) [
      | inl below ↦ let x = lt-leb low g below in (λ i. (x i && nat_lt g high) && there g)
      | inr past ↦ elim (cases_lt g high) [
        | inl inside ↦ (λ i. is_between low high g && none g past inside i) ∙ nothing (is_between low high g)
        | inr after ↦
            let x = le-leb low g past in let y = le-ltb g high after in
            (λ i. (x i && y i) && there g)
      ]
    ])
  where
    nothing : (b : Bool) → (b && false) ≡ false
    nothing true = refl
    nothing false = refl
