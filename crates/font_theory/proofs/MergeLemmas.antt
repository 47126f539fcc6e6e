-- Pairs merged in order.
use Rattle.std.proofs.Common.{◌≡◌, ℕ, suc, ◌<◌, ◌≤◌, Bool, true, false, cond, ltb, eqb, ◌||◌, List, [], ◌∷◌, None, refl}
use Rattle.std.proofs.Common.{ap, arith, inl, inr, ◌∙◌, sym, subst}
use Rattle.std.specs.List.{filter}
use Rattle.std.specs.Option.{is_some}
use Rattle.std.proofs.lemmas.Bool.{both_ways, cases_Bool, cases_lt, cond-false, cond-true, cond_both, eqb-false, le-ltb}
use Rattle.std.proofs.lemmas.Bool.{lt-ltb, ne_eqb}
use Rattle.variation_sequences.specs.declared.variant.Pair.{Pair}
use Rattle.font_theory.specs.OrderedPairs.{first_twice, merged, place_of, with_one}
use Rattle.font_theory.proofs.OrderLemmas.{Rises, rises_filter}

-- one more pair
one-above : (p q : Pair) (qs : List Pair) → place_of q < place_of p → with_one p (q ∷ qs) ≡ q ∷ with_one p qs
unfolding with_one
one-above p q qs h = cond-true (ltb (place_of q) (place_of p)) _ _ (lt-ltb (place_of q) (place_of p) h)

one-here : (p q : Pair) (qs : List Pair) → place_of p ≤ place_of q → with_one p (q ∷ qs) ≡ p ∷ q ∷ qs
unfolding with_one
one-here p q qs h = cond-false (ltb (place_of q) (place_of p)) _ _ (le-ltb (place_of q) (place_of p) h)

one-none : (p : Pair) → with_one p [] ≡ p ∷ []
unfolding with_one
one-none p = refl

module _ (P : Pair → Type 0) where
  -- pairs in order, of which some may have one place
  abbrev pub Sorts : ℕ → List Pair → Type 0
  Sorts low [] = Unit {0}
  Sorts low (p ∷ ps) = P p × (low ≤ place_of p) × Sorts (place_of p) ps

  sorts_from : (low high : ℕ) (ps : List Pair) → low ≤ high → Sorts high ps → Sorts low ps
  sorts_from low high [] h s = tt
  sorts_from low high (p ∷ ps) h s = (s.0, omega (arith, h, s.1), s.2)

  sorts_filter : (test : Pair → Bool) (low : ℕ) (ps : List Pair) → Sorts low ps → Sorts low (filter test ps)
  sorts_filter test low [] s = tt
  sorts_filter test low (p ∷ ps) s =
      let rest = sorts_filter test (place_of p) ps s.2 in
      cond_both (test p) (p ∷ filter test ps) (filter test ps) (Sorts low) (λ t. (s.0, s.1, rest))
      (λ f. sorts_from low (place_of p) (filter test ps) s.1 rest)

  rises_sorts : (low : ℕ) (ps : List Pair) → Rises P place_of low ps → Sorts low ps
  rises_sorts low [] r = tt
  rises_sorts low (p ∷ ps) r =
      (r.0, r.1, sorts_from (place_of p) (suc (place_of p)) ps (omega arith) (rises_sorts (suc (place_of p)) ps r.2))

  sorts_one : (p : Pair) (low : ℕ) (qs : List Pair) → P p → low ≤ place_of p → Sorts low qs
      → Sorts low (with_one p qs)
  sorts_one p low [] x h s = subst (Sorts low) (sym (one-none p)) (x, h, tt)
  sorts_one p low (q ∷ qs) x h s = elim (cases_lt (place_of q) (place_of p)) [
    | inl above ↦
        let below : place_of q ≤ place_of p = omega (arith, above) in
        subst (Sorts low) (sym (one-above p q qs above)) (s.0, s.1, sorts_one p (place_of q) qs x below s.2)
    | inr here ↦ subst (Sorts low) (sym (one-here p q qs here)) (x, h, (s.0, here, s.2))
  ]

  pub sorts_merged : (low : ℕ) (ps qs : List Pair) → Rises P place_of low ps → Sorts 0 qs → Sorts 0 (merged ps qs)
  sorts_merged low [] qs r s = s
  sorts_merged low (p ∷ ps) qs r s =
      sorts_one p 0 (merged ps qs) r.0 (omega arith) (sorts_merged (suc (place_of p)) ps qs r.2 s)

  -- a pair in front of all
  one-first : (p : Pair) (qs : List Pair) → Sorts (place_of p) qs → with_one p qs ≡ p ∷ qs
  one-first p [] s = one-none p
  one-first p (q ∷ qs) s = one-here p q qs s.1

  pub merged-none : (low : ℕ) (ps : List Pair) → Rises P place_of low ps → merged ps [] ≡ ps
  merged-none low [] r = refl
  merged-none low (p ∷ ps) r =
      ap (with_one p) (merged-none (suc (place_of p)) ps r.2)
      ∙ one-first p ps (sorts_from (place_of p) (suc (place_of p)) ps (omega arith)
      (rises_sorts (suc (place_of p)) ps r.2))

  merged-behind : (p : Pair) (low : ℕ) (xs zs : List Pair) → place_of p < low → Rises P place_of low xs
      → merged xs (p ∷ zs) ≡ p ∷ merged xs zs
  merged-behind p low [] zs h r = refl
  merged-behind p low (x ∷ xs) zs h r =
      let above : place_of p < place_of x = omega (arith, h, r.1) in
      ap (with_one x) (merged-behind p (suc (place_of x)) xs zs (omega (arith, above)) r.2)
      ∙ one-above x p (merged xs zs) above

  -- what a test keeps of merged pairs
  filter-one_no : (test : Pair → Bool) (p : Pair) (qs : List Pair) → test p ≡ false
      → filter test (with_one p qs) ≡ filter test qs
  filter-one_no test p [] f = ap (filter test) (one-none p) ∙ cond-false (test p) (p ∷ []) [] f
  filter-one_no test p (q ∷ qs) f = elim (cases_lt (place_of q) (place_of p)) [
    | inl above ↦
        ap (filter test) (one-above p q qs above)
        ∙ ap (λ (xs : List Pair). cond (test q) (q ∷ xs) xs) (filter-one_no test p qs f)
    | inr here ↦
        ap (filter test) (one-here p q qs here)
        ∙ cond-false (test p) (p ∷ filter test (q ∷ qs)) (filter test (q ∷ qs)) f
  ]

  filter-one_yes : (test : Pair → Bool) (p : Pair) (low : ℕ) (qs : List Pair) → test p ≡ true → Sorts low qs
      → filter test (with_one p qs) ≡ with_one p (filter test qs)
  filter-one_yes test p low [] t s =
      ap (filter test) (one-none p) ∙ cond-true (test p) (p ∷ []) [] t ∙ sym (one-none p)
  filter-one_yes test p low (q ∷ qs) t s = elim (cases_lt (place_of q) (place_of p)) [
    | inl above ↦
        ap (filter test) (one-above p q qs above)
        ∙ ap (λ (xs : List Pair). cond (test q) (q ∷ xs) xs) (filter-one_yes test p (place_of q) qs t s.2)
        ∙ passed above (test q)
    | inr here ↦
        ap (filter test) (one-here p q qs here)
        ∙ cond-true (test p) (p ∷ filter test (q ∷ qs)) (filter test (q ∷ qs)) t
        ∙ sym (one-first p (filter test (q ∷ qs)) (sorts_filter test (place_of p) (q ∷ qs) (s.0, here, s.2)))
  ]
    where
      passed : place_of q < place_of p → (b : Bool)
          → cond b (q ∷ with_one p (filter test qs)) (with_one p (filter test qs))
          ≡ with_one p (cond b (q ∷ filter test qs) (filter test qs))
      passed above true = sym (one-above p q (filter test qs) above)
      passed above false = refl

  pub filter-merged : (test : Pair → Bool) (low : ℕ) (ps qs : List Pair) → Rises P place_of low ps → Sorts 0 qs
      → filter test (merged ps qs) ≡ merged (filter test ps) (filter test qs)
  filter-merged test low [] qs r s = refl
  filter-merged test low (p ∷ ps) qs r s =
      let rest = filter-merged test (suc (place_of p)) ps qs r.2 s in
      elim (cases_Bool (test p)) [
        | inl t ↦
            filter-one_yes test p 0 (merged ps qs) t (sorts_merged (suc (place_of p)) ps qs r.2 s)
            ∙ ap (with_one p) rest
            ∙ ap (λ b. merged (cond b (p ∷ filter test ps) (filter test ps)) (filter test qs)) (sym t)
        | inr f ↦
            filter-one_no test p (merged ps qs) f ∙ rest
            ∙ ap (λ b. merged (cond b (p ∷ filter test ps) (filter test ps)) (filter test qs)) (sym f)
      ]

  -- what two tests keep, merged, is what either keeps
  abbrev either : (Pair → Bool) → (Pair → Bool) → Pair → Bool
  either one other p = one p || other p

  merged_step : (one other : Pair → Bool) (p : Pair) (ps : List Pair) → Rises P place_of (suc (place_of p)) ps
      → merged (filter one ps) (filter other ps) ≡ filter (either one other) ps
      → (a b : Bool) → (a ≡ true → b ≡ false)
      → merged (cond a (p ∷ filter one ps) (filter one ps)) (cond b (p ∷ filter other ps) (filter other ps))
      ≡ cond (a || b) (p ∷ filter (either one other) ps) (filter (either one other) ps)
  merged_step one other p ps r e true true apart = absurd (both_ways true (apart refl) refl)
  merged_step one other p ps r e true false apart =
      ap (with_one p) e
      ∙ one-first p (filter (either one other) ps) (sorts_filter (either one other) (place_of p) ps
      (sorts_from (place_of p) (suc (place_of p)) ps (omega arith) (rises_sorts (suc (place_of p)) ps r)))
  merged_step one other p ps r e false true apart =
      merged-behind p (suc (place_of p)) (filter one ps) (filter other ps) (omega arith)
      (rises_filter P place_of one (suc (place_of p)) ps r)
      ∙ ap (λ (xs : List Pair). p ∷ xs) e
  merged_step one other p ps r e false false apart = e

  pub merged-filters : (one other : Pair → Bool) → ((p : Pair) → one p ≡ true → other p ≡ false) → (low : ℕ)
      (ps : List Pair) → Rises P place_of low ps
      → merged (filter one ps) (filter other ps) ≡ filter (either one other) ps
  merged-filters one other apart low [] r = refl
  merged-filters one other apart low (p ∷ ps) r =
      merged_step one other p ps r.2 (merged-filters one other apart (suc (place_of p)) ps r.2) (one p) (other p)
      (apart p)

  -- pairs in order rise exactly if no two have one place
  pub rises_once : (low : ℕ) (ps : List Pair) → Rises P place_of low ps → first_twice ps ≡ None
  unfolding first_twice
  rises_once low [] r = refl
  rises_once low (p ∷ []) r = refl
  rises_once low (p ∷ q ∷ qs) r =
      let above : place_of p < place_of q = omega (arith, r.2.1) in
      cond-false (eqb (place_of p) (place_of q)) _ _
      (ne_eqb (place_of p) (place_of q) (λ e. omega (arith, e, above)))
      ∙ rises_once (suc (place_of p)) (q ∷ qs) r.2

  pub once_rises : (low : ℕ) (ps : List Pair) → Sorts low ps → first_twice ps ≡ None → Rises P place_of low ps
  unfolding first_twice
  once_rises low [] s e = tt
  once_rises low (p ∷ []) s e = (s.0, s.1, tt)
  once_rises low (p ∷ q ∷ qs) s e =
      elim (cases_Bool (eqb (place_of p) (place_of q))) [
        | inl t ↦
            let twice = sym (cond-true (eqb (place_of p) (place_of q)) _ _ t) ∙ e in
            absurd (both_ways true (ap is_some twice) refl)
        | inr f ↦
            let above : suc (place_of p) ≤ place_of q = omega (arith, s.2.1, eqb-false (place_of p) (place_of q) f) in
            let rest = once_rises (suc (place_of p)) (q ∷ qs) (s.2.0, above, s.2.2)
            (sym (cond-false (eqb (place_of p) (place_of q)) _ _ f) ∙ e) in
            (s.0, s.1, rest)
      ]
