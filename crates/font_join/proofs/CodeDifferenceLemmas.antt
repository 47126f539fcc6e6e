-- The first code that two maps give two glyphs, found by their runs.
use Rattle.std.proofs.Common.{◌≡◌, ◌≢◌, ℕ, ◌+◌, ◌-◌, ◌<◌, ◌≤◌, max, min, Bool, true, false, nat_lt, ◌&&◌, ◌⊎◌, find}
use Rattle.std.proofs.Common.{refl, sym, ◌∙◌, arith, Some, None, inl, inr}
use Rattle.std.specs.List.{range_with_len}
use Rattle.std.proofs.lemmas.Bool.{cases_lt, eq-eqb, lt-ltb, ne_eqb}
use Rattle.codes.specs.Runs.{IsPiece, IsRun, NoRun}
use Rattle.codes.specs.declared.runs.Run.{Run}
use Rattle.font_theory.specs.Content.{CODES, Content}
use Rattle.font_theory.specs.Difference.{is_different_code}
use Rattle.font_theory.proofs.SpellingLemmas.{codes_are}
use Rattle.font_join.proofs.FirstLemmas.{first_found, first_none, first_skip}

both_false : (a b : Bool) → (a && (b && false)) ≡ false
both_false true true = refl
both_false true false = refl
both_false false b = refl

and_false : (a : Bool) → (a && false) ≡ false
and_false true = refl
and_false false = refl

module _ (K L : Content) where
  unmapped_left : (c : ℕ) → K.map c ≡ 0 → is_different_code K L c ≡ false
  unfolding is_different_code
  unmapped_left c e = rw e refl

  unmapped_right : (c : ℕ) → L.map c ≡ 0 → is_different_code K L c ≡ false
  unfolding is_different_code
  unmapped_right c e = rw e (and_false (nat_lt 0 (K.map c)))

  mapped_alike : (c : ℕ) → K.map c ≡ L.map c → is_different_code K L c ≡ false
  unfolding is_different_code
  mapped_alike c e = let s = eq-eqb (K.map c) (L.map c) e in rw s (both_false (nat_lt 0 (K.map c)) (nat_lt 0 (L.map c)))

  mapped_apart : (c : ℕ) → 0 < K.map c → 0 < L.map c → K.map c ≢ L.map c → is_different_code K L c ≡ true
  unfolding is_different_code
  mapped_apart c a b n =
      let x = lt-ltb 0 (K.map c) a in
      let y = lt-ltb 0 (L.map c) b in
      let z = ne_eqb (K.map c) (L.map c) n in rw (x, y, z) refl

  abbrev left : ℕ → Type 0
  left from = find (is_different_code K L) (range_with_len 0 CODES) ≡ find (is_different_code K L)
      (range_with_len from (CODES - from))

  -- no code is left that the first maps
  pub end_left : (from : ℕ) → NoRun K.map from → left from
      → None ≡ find (is_different_code K L) (range_with_len 0 CODES)
  end_left from none before =
      sym (before ∙ first_none (is_different_code K L) CODES from (λ c h. unmapped_left c (none c h)))

  -- or the second
  pub end_right : (from : ℕ) → NoRun L.map from → left from
      → None ≡ find (is_different_code K L) (range_with_len 0 CODES)
  end_right from none before =
      sym (before ∙ first_none (is_different_code K L) CODES from (λ c h. unmapped_right c (none c h)))

  module _ (from : ℕ) (a b : Run) (pa : IsPiece K.map from a) (pb : IsPiece L.map from b) (j : ℕ) (ja : a.first ≤ j)
      (jb : b.first ≤ j) (at : (j ≡ a.first) ⊎ (j ≡ b.first)) where
    -- before both runs have begun no code is mapped by both
    none_before : (c : ℕ) → from ≤ c → c < j → is_different_code K L c ≡ false
    none_before c h low = elim at [
      | inl e ↦ unmapped_left c (pa.least c h (omega arith))
      | inr e ↦ unmapped_right c (pb.least c h (omega arith))
    ]

    upto : j ≤ CODES
    upto = let e = codes_are in let x = pa.within in let y = pb.within in let u = pa.order in let v = pb.order in
        elim at [ inl q ↦ omega (arith, e) | inr q ↦ omega (arith, e) ]

    to_both : find (is_different_code K L) (range_with_len from (CODES - from)) ≡ find (is_different_code K L)
        (range_with_len j (CODES - j))
    to_both = let x = pa.from_on in first_skip (is_different_code K L) CODES from j (omega arith) upto none_before

    module _ (la : j ≤ a.last) (lb : j ≤ b.last) where
      -- both are mapped there, to two glyphs
      found : a.glyph + (j - a.first) ≢ b.glyph + (j - b.first)
          → find (is_different_code K L) (range_with_len from (CODES - from)) ≡ Some j
      found n =
          let x = pa.along j ja la in
          let y = pb.along j jb lb in
          let u = pa.mapped in
          let v = pb.mapped in
          let w = pa.within in
          let e = codes_are in
          to_both ∙ first_found (is_different_code K L) j CODES (omega (arith, e))
          (mapped_apart j (omega arith) (omega arith) (λ e. n (omega arith)))

      -- or to the same ones, as long as both runs go on
      along_both : (k : ℕ) → j ≤ k → k ≤ a.last → k ≤ b.last → a.glyph + (j - a.first) ≡ b.glyph + (j - b.first)
          → find (is_different_code K L) (range_with_len from (CODES - from)) ≡ find (is_different_code K L)
          (range_with_len (k + 1) (CODES - (k + 1)))
      along_both k jk ka kb s =
          let e = codes_are in
          let w = pa.within in
          to_both ∙ first_skip (is_different_code K L) CODES j (k + 1) (omega arith) (omega (arith, e)) (λ c h low.
          let x = pa.along c (omega arith) (omega arith) in
          let y = pb.along c (omega arith) (omega arith) in
          mapped_alike c (omega arith))

  -- a run is the first one from its own first code on, and what is before it is not mapped by both
  pub at_run : (from : ℕ) (b : Run) → IsRun L.map from b → left from → left b.first × IsRun L.map b.first b
  at_run from b rb s = (
    let x = rb.piece.order in let y = rb.piece.within in let e = codes_are in
        s ∙ first_skip (is_different_code K L) CODES from b.first rb.piece.from_on (omega (arith, e, x, y))
        (λ c h low. unmapped_right c (rb.piece.least c h low)),
    record {
      piece = record {
        from_on = omega arith;
        least = λ c x y. absurd (omega (arith, x, y));
        order = rb.piece.order;
        within = rb.piece.within;
        mapped = rb.piece.mapped;
        small = rb.piece.small;
        along = rb.piece.along;
      };
      longest = rb.longest;
    },
  )

  -- the same, as the loop has it
  module _ (from : ℕ) (a b : Run) (pa : IsPiece K.map from a) (rb : IsRun L.map from b) (j k : ℕ)
      (em : j ≡ max a.first b.first) (en : k ≡ min a.last b.last) where
    begins : (j ≡ a.first) ⊎ (j ≡ b.first)
    begins = elim (cases_lt a.first b.first) [
      | inl low ↦ inr (omega (arith, em, low))
      | inr high ↦
          inl (omega (arith, em, high))
    ]

    pub run_found : j ≤ k → a.glyph + (j - a.first) ≢ b.glyph + (j - b.first) → left from
        → Some j ≡ find (is_different_code K L) (range_with_len 0 CODES)
    run_found h n s =
        sym (s ∙ found from a b pa rb.piece j (omega (arith, em)) (omega (arith, em)) begins (omega (arith, h, en))
        (omega (arith, h, en)) n)

    pub run_apart : left from → (j ≤ 1114112) × left j
    run_apart s = (
      let x = pa.within in let y = rb.piece.within in let u = pa.order in let v = rb.piece.order in omega (arith, em),
      s ∙ to_both from a b pa rb.piece j (omega (arith, em)) (omega (arith, em)) begins,
    )

    pub run_along : j ≤ k → a.glyph + (j - a.first) ≡ b.glyph + (j - b.first) → left from → (k + 1 ≤ 1114112)
        × left (k + 1)
    run_along h e s = (
      let x = pa.within in omega (arith, en),
      s ∙ along_both from a b pa rb.piece j (omega (arith, em)) (omega (arith, em)) begins (omega (arith, h, en))
          (omega (arith, h, en)) k h (omega (arith, en)) (omega (arith, en)) e,
    )
