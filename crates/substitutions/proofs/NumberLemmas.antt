-- Numbers of glyphs that a table of bytes names are numbers of 16 bits.
use Rattle.std.proofs.Common.{◌≡◌, ℕ, ◌+◌, ◌*◌, ◌%◌, ◌<◌, inl, inr, List, [], ◌∷◌, get_or, length, map, sym, subst}
use Rattle.std.proofs.Common.{arith}
use Rattle.std.specs.List.{All, range_with_len}
use Rattle.std.proofs.lemmas.Bool.{cases_lt}
use Rattle.std.proofs.lemmas.List.{get_or_past}
use Rattle.std.proofs.lemmas.List.Elements.{All-cons, All-from_get_or, All-nil}
use Rattle.std.proofs.lemmas.List.FromFn.{get_or-map-range_with_len, length-map-range_with_len}
use Rattle.sfnt_bytes.specs.Number.{u16_at}
use Rattle.substitutions.specs.Covered.{HasIndex}
use Rattle.substitutions.specs.Covered.HasIndex.{listed, ranged}
use Rattle.substitutions.specs.Substitution.{FormsLigature, Replaces, glyph_array}
use Rattle.substitutions.specs.Substitution.Replaces.{by_delta, by_array, by_sequence, by_alternate, by_reverse}

module _ (table : List ℕ) (bytes : All (λ byte. byte < 256) table) where
  byte_low : (k : ℕ) → get_or table k 0 < 256
  byte_low k =
      elim (cases_lt k (length table)) [
        | inl low ↦ bytes k 0 low
        | inr past ↦ let none = get_or_past table k 0 past in omega (arith, none)
      ]

  word_low : (k : ℕ) → u16_at table k < 65536
  unfolding u16_at
  word_low k = omega (arith, byte_low k, byte_low (k + 1))

  index_low : {coverage g i : ℕ} → HasIndex table coverage g i → g < 65536
  index_low (listed format few is) = subst (λ x. x < 65536) is (word_low _)
  index_low {coverage = c} (ranged k format few first last index) = omega (arith, word_low (c + 6 + 6 * k), last)

  alone : (h : ℕ) (outputs : List ℕ) → h < 65536 → h ∷ [] ≡ outputs → All (λ x. x < 65536) outputs
  alone h outputs low is = subst (All (λ x. x < 65536)) is (All-cons (λ x. x < 65536) h [] low (All-nil _))

  array_low : (at n : ℕ) → All (λ x. x < 65536) (glyph_array table at n)
  unfolding glyph_array
  array_low at n =
      let long = length-map-range_with_len (λ k. u16_at table (at + 2 * k)) 0 n in
      All-from_get_or (λ x. x < 65536) (map (λ k. u16_at table (at + 2 * k)) (range_with_len 0 n)) 0
      (λ k low. subst (λ x. x < 65536)
      (sym (get_or-map-range_with_len (λ j. u16_at table (at + 2 * j)) 0 n k k 0 (omega (arith, long)) (omega arith)))
      (word_low _))

  pub replaced_low : {g : ℕ} {outputs : List ℕ} → Replaces table g outputs → (g < 65536)
      × All (λ h. h < 65536) outputs
  replaced_low {g = g} {outputs = outputs} (by_delta {at = at} c is) =
      (index_low c.index, alone ((g + u16_at table (at + 4)) % 65536) outputs (omega arith) is)
  replaced_low {outputs = outputs} (by_array c few is) =
      (index_low c.index, alone _ outputs (word_low _) is)
  replaced_low (by_sequence c few to is) =
      (index_low c.index, subst (All (λ x. x < 65536)) is (array_low _ _))
  replaced_low {outputs = outputs} (by_alternate k c few to low is) =
      (index_low c.index, alone _ outputs (word_low _) is)
  replaced_low {outputs = outputs} (by_reverse count c end few is) =
      (index_low c.index, alone _ outputs (word_low _) is)

  pub formed_low : {g : ℕ} {others : List ℕ} {formed : ℕ} → FormsLigature table g others formed → (g < 65536)
      × (formed < 65536)
  formed_low l = (index_low l.covers.index, subst (λ x. x < 65536) l.ligature_glyph (word_low _))
