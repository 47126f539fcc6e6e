-- The metric of a glyph depends on the bytes of its entry and on the last advance.
use Rattle.std.proofs.Common.{◌≡◌, ℕ, ◌+◌, ◌-◌, ◌*◌, ◌<◌, ◌≤◌, nat_eq, inl, inr, List, get_or, refl, sym, ◌∙◌, ap}
use Rattle.std.proofs.Common.{arith, false}
use Rattle.std.specs.Int.{w16, cast_signed}
use Rattle.std.proofs.lemmas.Bool.{cases_lt, le-ltb, lt-ltb, ne_eqb}
use Rattle.sfnt_bytes.specs.Number.{u16_at}
use Rattle.font_tables.specs.Fields.{i16_at}
use Rattle.font_tables.specs.Metrics.{advance_width, left_side_bearing, lsb, metric_in, metric_of}
use Rattle.font_theory.specs.Content.{metric_count, plain_font, table_in_slot}
use Rattle.font_theory.specs.Parted.{entry_size, entry_start}
use Rattle.font_theory.proofs.FontLemmas.{hmtx-slot, metric_count-file}
use Rattle.sfnt_bytes.specs.declared.tag.TheConstants.{HMTX}

entry-pair : (k g : ℕ) → 0 < k → g + 1 < k → (entry_size k g ≡ 4) × (entry_start k g ≡ 4 * g)
unfolding entry_size entry_start
entry-pair k g some pair =
    let t = lt-ltb (g + 1) k pair in
    let ne : nat_eq k 0 ≡ false = ne_eqb k 0 (λ e. omega arith) in
    rw (ne, t) (refl, refl)

entry-bearing : (k g : ℕ) → 0 < k → k ≤ g + 1 → (entry_size k g ≡ 2) × (entry_start k g ≡ 2 * (k + g))
unfolding entry_size entry_start
entry-bearing k g some late =
    let f = le-ltb (g + 1) k late in
    let ne : nat_eq k 0 ≡ false = ne_eqb k 0 (λ e. omega arith) in
    rw (ne, f) (refl, refl)

metric_in-front : (t : List ℕ) (k g : ℕ) → g < k → metric_in t k g ≡ (advance_width t g, lsb t g)
unfolding metric_in
metric_in-front t k g low = let h = lt-ltb g k low in rw h refl

metric_in-after : (t : List ℕ) (k g : ℕ) → k ≤ g
    → metric_in t k g ≡ (advance_width t (k - 1), left_side_bearing t k (g - k))
unfolding metric_in
metric_in-after t k g late = let h = le-ltb g k late in rw h refl

module _ (t t' : List ℕ) where
  u16-same : (at : ℕ) → get_or t' at 0 ≡ get_or t at 0 → get_or t' (at + 1) 0 ≡ get_or t (at + 1) 0
      → u16_at t' at ≡ u16_at t at
  unfolding u16_at
  u16-same at a b = λ i. a i * 256 + b i

  i16-same : (at : ℕ) → u16_at t' at ≡ u16_at t at → i16_at t' at ≡ i16_at t at
  unfolding i16_at
  i16-same at e = ap (cast_signed w16) e

  advance-same : (g : ℕ) → u16_at t' (4 * g) ≡ u16_at t (4 * g) → advance_width t' g ≡ advance_width t g
  unfolding advance_width
  advance-same g e = e

  lsb-same : (g : ℕ) → i16_at t' (4 * g + 2) ≡ i16_at t (4 * g + 2) → lsb t' g ≡ lsb t g
  unfolding lsb
  lsb-same g e = e

  bearing-same : (k g : ℕ) → i16_at t' (4 * k + 2 * g) ≡ i16_at t (4 * k + 2 * g)
      → left_side_bearing t' k g ≡ left_side_bearing t k g
  unfolding left_side_bearing
  bearing-same k g e = e

  module _ (k g : ℕ) (some : 0 < k) (bytes : (i : ℕ) → i < entry_size k g → get_or t' (entry_start k g + i) 0
      ≡ get_or t (entry_start k g + i) 0)
      (last : (e : ℕ) → e < 2 → get_or t' (4 * (k - 1) + e) 0 ≡ get_or t (4 * (k - 1) + e) 0) where
    own_byte : (j i : ℕ) → i < entry_size k g → entry_start k g + i ≡ j → get_or t' j 0 ≡ get_or t j 0
    own_byte j i low e = ap (λ (x : ℕ). get_or t' x 0) (sym e) ∙ bytes i low ∙ ap (λ (x : ℕ). get_or t x 0) e

    last_byte : (j e : ℕ) → e < 2 → 4 * (k - 1) + e ≡ j → get_or t' j 0 ≡ get_or t j 0
    last_byte j e low is = ap (λ (x : ℕ). get_or t' x 0) (sym is) ∙ last e low ∙ ap (λ (x : ℕ). get_or t x 0) is

    last_advance : advance_width t' (k - 1) ≡ advance_width t (k - 1)
    last_advance = advance-same (k - 1) (u16-same (4 * (k - 1)) (last_byte _ 0 (omega arith) (omega arith))
        (last_byte _ 1 (omega arith) (omega arith)))

    -- a glyph's bytes, and the last advance, make its metric
    pub metric_in-same : metric_in t' k g ≡ metric_in t k g
    metric_in-same =
        elim (cases_lt (g + 1) k) [
          | inl pair ↦
              let w = entry-pair k g some pair in
              let size = w.0 in
              let at = w.1 in
              let a = advance-same g (u16-same (4 * g) (own_byte _ 0 (omega arith) (omega arith))
              (own_byte _ 1 (omega arith) (omega arith))) in
              let b = lsb-same g (i16-same (4 * g + 2) (u16-same (4 * g + 2) (own_byte _ 2 (omega arith) (omega arith))
              (own_byte _ 3 (omega arith) (omega arith)))) in
              metric_in-front t' k g (omega arith) ∙ (λ i. (a i, b i)) ∙ sym (metric_in-front t k g (omega arith))
          | inr late ↦
              let w = entry-bearing k g some late in
              let size = w.0 in
              let at = w.1 in
              elim (cases_lt g k) [
                | inl here ↦
                    let a : advance_width t' g ≡ advance_width t g =
                    advance-same g (u16-same (4 * g) (last_byte _ 0 (omega arith) (omega arith))
                    (last_byte _ 1 (omega arith) (omega arith))) in
                    let b = lsb-same g
                    (i16-same (4 * g + 2) (u16-same (4 * g + 2) (own_byte _ 0 (omega arith) (omega arith))
                    (own_byte _ 1 (omega arith) (omega arith)))) in
                    metric_in-front t' k g here ∙ (λ i. (a i, b i)) ∙ sym (metric_in-front t k g here)
                | inr past ↦
                    let b = bearing-same k (g - k)
                    (i16-same (4 * k + 2 * (g - k))
                    (u16-same (4 * k + 2 * (g - k)) (own_byte _ 0 (omega arith) (omega arith))
                    (own_byte _ 1 (omega arith) (omega arith)))) in
                    metric_in-after t' k g past ∙ (λ i. (last_advance i, b i)) ∙ sym (metric_in-after t k g past)
              ]
        ]

-- the metric of a glyph of a file, in the words of its tables
pub metric_of-tables : (file : List ℕ) (g : ℕ) → metric_of file g
    ≡ metric_in (table_in_slot (plain_font file).copied HMTX)
    (metric_count (plain_font file).copied) g
unfolding metric_of
metric_of-tables file g = λ i. metric_in (sym (hmtx-slot file) i) (sym (metric_count-file file) i) g
