-- Rounds over the numbers below a count: they find nothing more in time.
use Rattle.std.proofs.Common.{◌≡◌, ℕ, zero, suc, ◌+◌, ◌<◌, ◌≤◌, ◌⊎◌, Bool, true, false, ◌&&◌, inl, inr, refl, sym, ◌∙◌}
use Rattle.std.proofs.Common.{ap, subst, arith}
use Rattle.std.specs.Bool.{Decides}
use Rattle.std.proofs.lemmas.Bool.{cases_Bool, cases_eq, or_cases, or_left, or_right, and_parts, and_from, both_ways}
use Rattle.std.proofs.lemmas.Bool.Decides.{Decides-below_or}
use Rattle.font_glyph.specs.Reach.{any_below, found_within}

pub any_decides : (p : ℕ → Bool) (n : ℕ) → Decides (any_below p n) ((k : ℕ) × (k < n) × (p k ≡ true))
any_decides p n = Decides-below_or p (λ k. p k ≡ true) (any_below p) (λ k. (λ h. h, λ h. h)) refl (λ _. refl) n

abbrev bit : Bool → ℕ
bit true = 1
bit false = 0

bit-true : (b : Bool) → b ≡ true → bit b ≡ 1
bit-true b e = ap bit e

bit-false : (b : Bool) → b ≡ false → bit b ≡ 0
bit-false b e = ap bit e

bit-most : (b : Bool) → bit b ≤ 1
bit-most true = omega arith
bit-most false = omega arith

-- how many numbers below n pass
abbrev count : (ℕ → Bool) → ℕ → ℕ
count p zero = 0
count p (suc n) = bit (p n) + count p n

count-most : (p : ℕ → Bool) (n : ℕ) → count p n ≤ n
count-most p zero = omega arith
count-most p (suc n) = omega (arith, bit-most (p n), count-most p n)

-- of two tests, the second passing more: they agree below n, or the second counts more
count_grows : (p q : ℕ → Bool) → ((k : ℕ) → p k ≡ true → q k ≡ true) → (n : ℕ)
    → (((k : ℕ) → k < n → q k ≡ true → p k ≡ true) × (count p n ≤ count q n)) ⊎ (count p n < count q n)
count_grows p q more zero = inl ((λ k h _. absurd (omega arith)), omega arith)
count_grows p q more (suc n) =
    let ih = count_grows p q more n in
    elim (cases_Bool (p n)) [
      | inl pn ↦
          let ep = bit-true (p n) pn in
          let eq = bit-true (q n) (more n pn) in
          elim ih [
            | inl w ↦ inl (
              (λ k h qk. elim (cases_eq k n) [
                | inl e ↦ subst (λ x. p x ≡ true) (sym e) pn
                | inr ne ↦
                    w.0 k (omega arith) qk
              ]),
              omega (arith, ep, eq, w.1),
            )
            | inr w ↦ inr (omega (arith, ep, eq, w))
          ]
      | inr pn ↦
          let ep = bit-false (p n) pn in
          elim (cases_Bool (q n)) [
            | inl qn ↦
                let eq = bit-true (q n) qn in
                elim ih [ inl w ↦ inr (omega (arith, ep, eq, w.1)) | inr w ↦ inr (omega (arith, ep, eq, w)) ]
            | inr qn ↦
                let eq = bit-false (q n) qn in
                elim ih [
                  | inl w ↦ inl (
                    (λ k h qk. elim (cases_eq k n) [
                      | inl e ↦
                          absurd (both_ways (q k) (ap q e ∙ qn) qk)
                      | inr ne ↦ w.0 k (omega arith) qk
                    ]),
                    omega (arith, ep, eq, w.1),
                  )
                  | inr w ↦ inr (omega (arith, ep, eq, w))
                ]
          ]
    ]

-- rounds over the numbers below n
module _ (leads : ℕ → ℕ → Bool) (seeds : ℕ → Bool) (n : ℕ) where
  abbrev pub at : ℕ → ℕ → Bool
  at k g = found_within leads seeds n k g

  -- round k finds nothing new
  abbrev pub IsFixed : ℕ → Type 0
  IsFixed k = (g : ℕ) → g < n → at (suc k) g ≡ true → at k g ≡ true

  pub keeps : (k g : ℕ) → at k g ≡ true → at (suc k) g ≡ true
  keeps k g h = or_left _ _ h

  pub one_more : (k s g : ℕ) → s < n → at k s ≡ true → leads s g ≡ true → at (suc k) g ≡ true
  one_more k s g lt h m = or_right (at k g) _ ((any_decides _ n).1 (s, lt, and_from _ _ h m))

  stays_fixed : (k : ℕ) → IsFixed k → IsFixed (suc k)
  stays_fixed k fixed g lt h =
      elim (or_cases (at (suc k) g) _ h) [
        | inl e ↦ e
        | inr e ↦
            let w : (s : ℕ) × (s < n) × ((at (suc k) s && leads s g) ≡ true) = (any_decides _ n).0 e in
            let both = and_parts _ _ w.2 in
            one_more k w.0 g w.1 (fixed w.0 w.1 both.0) both.1
      ]

  fixed_or_many : (k : ℕ) → IsFixed k ⊎ (k ≤ count (at k) n)
  fixed_or_many zero = inr (omega arith)
  fixed_or_many (suc k) =
      elim (fixed_or_many k) [
        | inl f ↦ inl (stays_fixed k f)
        | inr many ↦ elim (count_grows (at k) (at (suc k)) (keeps k) n) [
          | inl w ↦ inl (stays_fixed k w.0)
          | inr more ↦ inr (omega arith)
        ]
      ]

  pub fixed_in_time : IsFixed (suc n)
  fixed_in_time =
      elim (fixed_or_many (suc n)) [
        | inl f ↦ f
        | inr many ↦ let top : count (at (suc n)) n ≤ n = count-most (at (suc n)) n in absurd (omega arith)
      ]

  pub from_start : (k g : ℕ) → seeds g ≡ true → at k g ≡ true
  from_start zero g h = h
  from_start (suc k) g h = keeps k g (from_start k g h)
