-- Lists of glyphs by their numbers.
use Rattle.std.proofs.Common.{◌≡◌, ℕ, zero, suc, ◌+◌, ◌<◌, ◌≤◌, Bool, true, false, cond, ◌&&◌, ◌||◌, inl, inr, nat_eq}
use Rattle.std.proofs.Common.{nat_lt, List, [], ◌∷◌}
use Rattle.std.proofs.Common.{◌++◌, append-nil, filter, refl, sym, ap, ◌∙◌, ◌-◌, arith}
use Rattle.std.specs.List.{list_any, range_with_len}
use Rattle.std.proofs.lemmas.Bool.{cases_eq, cases_lt, eq-eqb, le-ltb, lt-ltb, ne_eqb}
use Rattle.std.proofs.lemmas.List.Elements.{filter-append}
use Rattle.std.proofs.lemmas.List.Folds.{list_any-append}
use Rattle.font_subset.specs.KeptGlyphs.{numbers_in}

-- a list of numbers, and one more
range_more : (a n : ℕ) → range_with_len a (suc n) ≡ range_with_len a n ++ ((a + n) ∷ [])
range_more a zero = ap (λ (m : ℕ). m ∷ []) (omega arith)
range_more a (suc n) = ap (λ (l : List ℕ). a ∷ l) (range_more (a + 1) n
    ∙ ap (λ (m : ℕ). range_with_len (a + 1) n ++ (m ∷ [])) (omega arith))

next : (test : ℕ → Bool) (n : ℕ) → numbers_in test (suc n) ≡ numbers_in test n ++ filter test (n ∷ [])
next test n =
    ap (filter test) (range_more 0 n) ∙ filter-append test (range_with_len 0 n) ((0 + n) ∷ [])
    ∙ ap (λ (m : ℕ). numbers_in test n ++ filter test (m ∷ [])) (omega arith)

pub one_more : (test : ℕ → Bool) (n : ℕ) → numbers_in test (n + 1) ≡ numbers_in test n ++ filter test (n ∷ [])
one_more test n = let e : n + 1 ≡ suc n = omega arith in ap (numbers_in test) e ∙ next test n

-- of two tests that are one below a count
pub same_numbers_in : (test other : ℕ → Bool) (n : ℕ) → ((g : ℕ) → g < n → test g ≡ other g)
    → numbers_in test n ≡ numbers_in other n
same_numbers_in test other zero same = refl
same_numbers_in test other (suc n) same =
    next test n
    ∙ (λ i. same_numbers_in test other n (λ g low. same g (omega (arith, low))) i
    ++ cond (same n (omega arith) i) (n ∷ []) [])
    ∙ sym (next other n)

-- of a test that is nowhere true from one count up to another
pub none_more : (test : ℕ → Bool) (n k : ℕ) → ((g : ℕ) → n ≤ g → g < n + k → test g ≡ false)
    → numbers_in test (n + k) ≡ numbers_in test n
none_more test n zero none = ap (numbers_in test) (omega arith)
none_more test n (suc k) none =
    let e : n + suc k ≡ suc (n + k) = omega arith in
    ap (numbers_in test) e ∙ next test (n + k)
    ∙ ap (λ b. numbers_in test (n + k) ++ cond b ((n + k) ∷ []) []) (none (n + k) (omega arith) (omega arith))
    ∙ append-nil (numbers_in test (n + k))
    ∙ none_more test n k (λ g high low. none g high (omega (arith, low)))

pub none_between : (test : ℕ → Bool) (n m : ℕ) → n ≤ m → ((g : ℕ) → n ≤ g → g < m → test g ≡ false)
    → numbers_in test m ≡ numbers_in test n
none_between test n m order none =
    let e : n + (m - n) ≡ m = omega (arith, order) in
    ap (numbers_in test) (sym e) ∙ none_more test n (m - n) (λ g high low. none g high (omega (arith, low, order)))

-- one more, at which a test is true, and none up to another count
pub one_listed : (test : ℕ → Bool) (n m : ℕ) → n + 1 ≤ m → test n ≡ true
    → ((g : ℕ) → n + 1 ≤ g → g < m → test g ≡ false) → numbers_in test m ≡ numbers_in test n ++ (n ∷ [])
one_listed test n m order is none =
    none_between test (n + 1) m order none ∙ one_more test n
    ∙ ap (λ b. numbers_in test n ++ cond b (n ∷ []) []) is

-- which numbers are among them
last_one : (test : ℕ → Bool) (n g : ℕ) → list_any (λ h. nat_eq h g) (filter test (n ∷ [])) ≡ (nat_eq n g && test n)
last_one test n g = go (test n)
  where
    go : (t : Bool) → list_any (λ h. nat_eq h g) (cond t (n ∷ []) []) ≡ (nat_eq n g && t)
    go true = either (nat_eq n g)
      where
        either : (b : Bool) → (b || false) ≡ (b && true)
        either true = refl
        either false = refl
    go false = nothing (nat_eq n g)
      where
        nothing : (b : Bool) → false ≡ (b && false)
        nothing true = refl
        nothing false = refl

pub are_among : (test : ℕ → Bool) (n g : ℕ) → list_any (λ h. nat_eq h g) (numbers_in test n) ≡ (nat_lt g n && test g)
are_among test zero g = sym (ap (λ b. b && test g) (le-ltb g 0 (omega arith)))
are_among test (suc n) g =
    ap (list_any (λ h. nat_eq h g)) (next test n)
    ∙ list_any-append (λ h. nat_eq h g) (numbers_in test n) (filter test (n ∷ []))
    ∙ (λ i. are_among test n g i || last_one test n g i)
    ∙ elim (cases_lt g n) [
      | inl low ↦
          let x = lt-ltb g n low in let y = ne_eqb n g (λ e. omega (arith, e, low)) in
          let z = lt-ltb g (suc n) (omega (arith, low)) in
          (λ i. (x i && test g) || (y i && test n)) ∙ or_nothing (test g) ∙ (λ i. sym z i && test g)
      | inr past ↦ elim (cases_eq n g) [
        | inl e ↦
            let x = le-ltb g n past in let y = eq-eqb n g e in
            let z = lt-ltb g (suc n) (omega (arith, e)) in
            (λ i. (x i && test g) || (y i && test (e i))) ∙ (λ i. sym z i && test g)
        | inr d ↦
            let x = le-ltb g n past in let y = ne_eqb n g d in
            let late : suc n ≤ g = omega (arith, past, d) in
            let z = le-ltb g (suc n) late in
            (λ i. (x i && test g) || (y i && test n)) ∙ (λ i. sym z i && test g)
      ]
    ]
  where
    or_nothing : (b : Bool) → ((true && b) || false) ≡ (true && b)
    or_nothing true = refl
    or_nothing false = refl

-- and which are among given ones and them
pub are_among_both : (given : List ℕ) (test : ℕ → Bool) (n g : ℕ)
    → list_any (λ h. nat_eq h g) (given ++ numbers_in test n)
    ≡ (list_any (λ h. nat_eq h g) given || (nat_lt g n && test g))
are_among_both given test n g =
    list_any-append (λ h. nat_eq h g) given (numbers_in test n)
    ∙ ap (λ b. list_any (λ h. nat_eq h g) given || b) (are_among test n g)
