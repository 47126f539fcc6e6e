-- A table without what varies has the steps of the table.
use Rattle.std.proofs.Common.{◌≡◌, ℕ, ◌+◌, ◌<◌, ◌≤◌, ◌↔◌, true, inl, inr, List, get_or, set, refl, sym}
use Rattle.std.proofs.Common.{subst, ◌∙◌, arith}
use Rattle.std.proofs.lemmas.Bool.{cases_Bool}
use Rattle.std.proofs.lemmas.List.{get_or-set_other}
use Rattle.sfnt_bytes.specs.Number.{u16_at, u32_at}
use Rattle.sfnt_bytes.specs.declared.tag.TheConstants.{GSUB}
use Rattle.font_layout.specs.Cleaning.{field_at, fixed, has_field, with_zeros}
use Rattle.font_layout.proofs.CleaningLemmas.{fixed-not}
use Rattle.substitutions.specs.Inside.{AgreePastHeader}
use Rattle.substitutions.specs.Laws.{HasListAfterHeader}
use Rattle.substitutions.specs.Shaping.{Becomes, BecomesInSteps}
use Rattle.substitutions.proofs.SameStepLemmas.{same_run, same_step}

module _ (table : List ℕ) where
  byte-zeros : (k : ℕ) → (k ≡ 10 → ⊥) → (k ≡ 11 → ⊥) → (k ≡ 12 → ⊥) → (k ≡ 13 → ⊥)
      → get_or (with_zeros 10 table) k 0 ≡ get_or table k 0
  byte-zeros k a b c d =
      get_or-set_other (set (set (set table 10 0) 11 0) 12 0) 13 k 0 0 d
      ∙ get_or-set_other (set (set table 10 0) 11 0) 12 k 0 0 c ∙ get_or-set_other (set table 10 0) 11 k 0 0 b
      ∙ get_or-set_other table 10 k 0 0 a

  past_zeros : (k : ℕ) → 14 ≤ k → get_or (with_zeros 10 table) k 0 ≡ get_or table k 0
  past_zeros k past =
      byte-zeros k (λ e. absurd (omega (arith, e))) (λ e. absurd (omega (arith, e))) (λ e. absurd (omega (arith, e)))
      (λ e. absurd (omega (arith, e)))

  offset-zeros : u16_at (with_zeros 10 table) 8 ≡ u16_at table 8
  unfolding u16_at
  offset-zeros =
      let first = byte-zeros 8 (λ e. absurd (omega (arith, e))) (λ e. absurd (omega (arith, e)))
      (λ e. absurd (omega (arith, e))) (λ e. absurd (omega (arith, e))) in
      let second = byte-zeros 9 (λ e. absurd (omega (arith, e))) (λ e. absurd (omega (arith, e)))
      (λ e. absurd (omega (arith, e))) (λ e. absurd (omega (arith, e))) in
      omega (arith, first, second)

  word-zeros : (k : ℕ) → 14 ≤ k → u16_at (with_zeros 10 table) k ≡ u16_at table k
  unfolding u16_at
  word-zeros k past =
      let first = past_zeros k past in
      let second = past_zeros (k + 1) (omega arith) in
      omega (arith, first, second)

  long_word-zeros : (k : ℕ) → 14 ≤ k → u32_at (with_zeros 10 table) k ≡ u32_at table k
  unfolding u32_at
  long_word-zeros k past =
      let first = past_zeros k past in
      let second = past_zeros (k + 1) (omega arith) in
      let third = past_zeros (k + 2) (omega arith) in
      let fourth = past_zeros (k + 3) (omega arith) in
      omega (arith, first, second, third, fourth)

  fixed-zeros : has_field GSUB table ≡ true → fixed GSUB table ≡ with_zeros 10 table
  unfolding fixed field_at
  fixed-zeros has = rw has refl

  module _ (after : HasListAfterHeader table) where
    alike_zeros : has_field GSUB table ≡ true → AgreePastHeader (with_zeros 10 table) table
    alike_zeros has =
        record {
          lookup_list_offset = offset-zeros;
          after = λ some. let w = after has (subst (λ (n : ℕ). 0 < n) offset-zeros some) in
              omega (arith, offset-zeros, w);
          words = word-zeros;
          long_words = long_word-zeros;
        }

    zeros_alike : has_field GSUB table ≡ true → AgreePastHeader table (with_zeros 10 table)
    zeros_alike has =
        record {
          lookup_list_offset = sym offset-zeros;
          after = after has;
          words = λ k past. sym (word-zeros k past);
          long_words = λ k past. sym (long_word-zeros k past);
        }

    pub cleaned_step : (list next : List ℕ) → Becomes (fixed GSUB table) list next ↔ Becomes table list next
    cleaned_step list next =
        elim (cases_Bool (has_field GSUB table)) [
          | inl has ↦ subst (λ (t : List ℕ). Becomes t list next ↔ Becomes table list next) (sym (fixed-zeros has))
              (same_step _ _ (alike_zeros has), same_step _ _ (zeros_alike has))
          | inr has_not ↦ subst (λ (t : List ℕ). Becomes t list next ↔ Becomes table list next)
              (sym (fixed-not GSUB table has_not)) (λ s. s, λ s. s)
        ]

    pub cleaned_run : (list last : List ℕ) → BecomesInSteps (fixed GSUB table) list last
        ↔ BecomesInSteps table list last
    cleaned_run list last =
        elim (cases_Bool (has_field GSUB table)) [
          | inl has ↦ subst (λ (t : List ℕ). BecomesInSteps t list last ↔ BecomesInSteps table list last)
              (sym (fixed-zeros has)) (same_run _ _ (alike_zeros has), same_run _ _ (zeros_alike has))
          | inr has_not ↦ subst (λ (t : List ℕ). BecomesInSteps t list last ↔ BecomesInSteps table list last)
              (sym (fixed-not GSUB table has_not)) (λ s. s, λ s. s)
        ]
