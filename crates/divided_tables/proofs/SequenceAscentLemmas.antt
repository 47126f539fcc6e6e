-- Lists that ascend by a key of their elements: two that have the same elements are the same.
use Rattle.std.proofs.Common.{◌≡◌, ℕ, zero, suc, ◌+◌, ◌<◌, ◌≤◌, Bool, true, false, cond, eqb, List, [], ◌∷◌}
use Rattle.std.proofs.Common.{length, get_or}
use Rattle.std.proofs.Common.{refl, ap, subst, sym, ◌∙◌, arith, inl, inr}
use Rattle.std.specs.List.{filter, sum_by}
use Rattle.std.specs.List.Sorted.{IsNonDecreasing, IsNonDecreasingBy}
use Rattle.std.proofs.lemmas.Bool.{cases_lt, cond-false, cond-true, cond_both, eq-eqb, ne_eqb}
use Rattle.std.proofs.lemmas.List.Sorted.{IsNonDecreasingBy-from_all_adjacent}
use Rattle.std.proofs.lemmas.List.Sums.{sum_by-cons}

-- what is asked of each element holds, and keys do not fall from a bound on
abbrev pub Ascends : {X : Type 0} → (X → Type 0) → (X → ℕ) → ℕ → List X → Type 0
Ascends P key low [] = Unit {0}
Ascends P key low (x ∷ xs) = P x × (low ≤ key x) × Ascends P key (key x) xs

pub ascends_from : {X : Type 0} (P : X → Type 0) (key : X → ℕ) (low high : ℕ) (xs : List X) → low ≤ high
    → Ascends P key high xs → Ascends P key low xs
ascends_from P key low high [] h s = tt
ascends_from P key low high (x ∷ xs) h s = (s.0, omega (arith, h, s.1), s.2)

pub ascends_filter : {X : Type 0} (P : X → Type 0) (key : X → ℕ) (test : X → Bool) (low : ℕ) (xs : List X)
    → Ascends P key low xs → Ascends P key low (filter test xs)
ascends_filter P key test low [] s = tt
ascends_filter P key test low (x ∷ xs) s =
    let rest = ascends_filter P key test (key x) xs s.2 in
    cond_both (test x) (x ∷ filter test xs) (filter test xs) (Ascends P key low) (λ t. (s.0, s.1, rest))
    (λ f. ascends_from P key low (key x) (filter test xs) s.1 rest)

-- an element with a key
abbrev hits : {X : Type 0} → (X → ℕ) → ℕ → X → ℕ
hits key k x = cond (eqb (key x) k) 1 0

none_below : {X : Type 0} (P : X → Type 0) (key : X → ℕ) (k low : ℕ) (xs : List X) → k < low → Ascends P key low xs
    → sum_by (hits key k) xs ≡ 0
none_below P key k low [] h s = refl
none_below P key k low (x ∷ xs) h s =
    let first : hits key k x ≡ 0 =
    cond-false (eqb (key x) k) 1 0 (ne_eqb (key x) k (λ e. omega (arith, e, h, s.1))) in
    let rest = none_below P key k (key x) xs (omega (arith, h, s.1)) s.2 in
    omega (arith, sum_by-cons (hits key k) x xs, first, rest)

once : {X : Type 0} (key : X → ℕ) (x : X) (xs : List X) → 1 ≤ sum_by (hits key (key x)) (x ∷ xs)
once key x xs =
    let first : hits key (key x) x ≡ 1 = cond-true (eqb (key x) (key x)) 1 0 (eq-eqb (key x) (key x) refl) in
    omega (arith, sum_by-cons (hits key (key x)) x xs, first)

-- lists with the same sums of whatever
abbrev pub HaveSame : {X : Type 0} → List X → List X → Type 0
HaveSame xs ys = (f : _ → ℕ) → sum_by f xs ≡ sum_by f ys

module _ {X : Type 0} (P : X → Type 0) (key : X → ℕ) (apart : (x y : X) → P x → P y → key x ≡ key y → x ≡ y) where
  pub same_ascending : (low high : ℕ) (xs ys : List X) → Ascends P key low xs → Ascends P key high ys
      → HaveSame xs ys → xs ≡ ys
  same_ascending low high [] [] r s e = refl
  same_ascending low high [] (y ∷ ys) r s e =
      absurd (omega (arith, e (hits key (key y)), once key y ys))
  same_ascending low high (x ∷ xs) [] r s e =
      absurd (omega (arith, e (hits key (key x)), once key x xs))
  same_ascending low high (x ∷ xs) (y ∷ ys) r s e =
      let one : x ≡ y = apart x y r.0 s.0 (same_key (e (hits key (key x))) (e (hits key (key y)))) in
      let rest : HaveSame xs ys = λ f.
      let first : f x ≡ f y = ap f one in
      omega (arith, e f, first, sum_by-cons f x xs, sum_by-cons f y ys) in
      let tails : xs ≡ ys = same_ascending (key x) (key y) xs ys r.2 s.2 rest in
      λ i. one i ∷ tails i
    where
      same_key : sum_by (hits key (key x)) (x ∷ xs) ≡ sum_by (hits key (key x)) (y ∷ ys)
          → sum_by (hits key (key y)) (x ∷ xs) ≡ sum_by (hits key (key y)) (y ∷ ys) → key x ≡ key y
      same_key a b = elim (cases_lt (key x) (key y)) [
        | inl below ↦
            let none = none_below P key (key x) (key y) (y ∷ ys) below (s.0, omega arith, s.2) in
            absurd (omega (arith, a, none, once key x xs))
        | inr from ↦ elim (cases_lt (key y) (key x)) [
          | inl below ↦
              let none = none_below P key (key y) (key x) (x ∷ xs) below (r.0, omega arith, r.2) in
              absurd (omega (arith, b, none, once key y ys))
          | inr other ↦ omega (arith, from, other)
        ]
      ]

-- a sum over what a test keeps
pub sum-filter : {X : Type 0} (test : X → Bool) (f : X → ℕ) (xs : List X)
    → sum_by f (filter test xs) ≡ sum_by (λ x. cond (test x) (f x) 0) xs
sum-filter test f [] = refl
sum-filter test f (x ∷ xs) =
    by_test (test x) (sum-filter test f xs) ∙ sym (sum_by-cons (λ z. cond (test z) (f z) 0) x xs)
  where
    by_test : (b : Bool) → sum_by f (filter test xs) ≡ sum_by (λ z. cond (test z) (f z) 0) xs
        → sum_by f (cond b (x ∷ filter test xs) (filter test xs))
        ≡ cond b (f x) 0 + sum_by (λ z. cond (test z) (f z) 0) xs
    by_test true e = sum_by-cons f x (filter test xs) ∙ ap (λ (n : ℕ). f x + n) e
    by_test false e = omega (arith, e)

pub same_filter : {X : Type 0} (test : X → Bool) (xs ys : List X) → HaveSame xs ys
    → HaveSame (filter test xs) (filter test ys)
same_filter test xs ys e f = sum-filter test f xs ∙ e (λ x. cond (test x) (f x) 0) ∙ sym (sum-filter test f ys)

-- numbers that do not fall ascend

pub ascends_by : {X : Type 0} (key : X → ℕ) (low : ℕ) (xs : List X)
    → ((d : X) → 0 < length xs → low ≤ key (get_or xs 0 d)) → IsNonDecreasingBy key xs
    → Ascends (λ _. Unit {0}) key low xs
ascends_by key low [] first order = tt
ascends_by key low (x ∷ xs) first order = (
  tt,
  first x (omega arith),
  ascends_by key (key x) xs (λ d some. order 0 1 d (omega arith) (omega (arith, some)))
      (λ i j d a b. order (suc i) (suc j) d (omega (arith, a)) (omega (arith, b))),
)

pub ascends_numbers : (low : ℕ) (xs : List ℕ) → ((d : ℕ) → 0 < length xs → low ≤ get_or xs 0 d) → IsNonDecreasing xs
    → Ascends (λ _. Unit {0}) (λ k. k) low xs
ascends_numbers low xs first order = ascends_by (λ k. k) low xs first order

-- and what ascends does not fall
adjacent : {X : Type 0} (P : X → Type 0) (key : X → ℕ) (low : ℕ) (xs : List X) → Ascends P key low xs
    → (k : ℕ) (d : X) → k + 1 < length xs → key (get_or xs k d) ≤ key (get_or xs (k + 1) d)
adjacent P key low [] s k d h = absurd (omega (arith, h))
adjacent P key low (x ∷ []) s k d h = absurd (omega (arith, h))
adjacent P key low (x ∷ y ∷ xs) s zero d h = s.2.1
adjacent P key low (x ∷ y ∷ xs) s (suc k) d h =
    let next : suc k + 1 ≡ suc (k + 1) = omega arith in
    subst (λ (n : ℕ). key (get_or (y ∷ xs) k d) ≤ key (get_or (x ∷ y ∷ xs) n d)) (sym next)
    (adjacent P key (key x) (y ∷ xs) s.2 k d (omega (arith, h)))

pub does_not_fall : {X : Type 0} (P : X → Type 0) (key : X → ℕ) (low : ℕ) (xs : List X) → Ascends P key low xs
    → IsNonDecreasingBy key xs
does_not_fall P key low xs s = IsNonDecreasingBy-from_all_adjacent key xs (adjacent P key low xs s)

-- with nothing asked of the elements
pub ascends_any : {X : Type 0} (P : X → Type 0) (key : X → ℕ) (low : ℕ) (xs : List X) → Ascends P key low xs
    → Ascends (λ _. Unit {0}) key low xs
ascends_any P key low [] s = tt
ascends_any P key low (x ∷ xs) s = (tt, s.1, ascends_any P key (key x) xs s.2)
