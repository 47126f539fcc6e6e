-- Lists in strict order.
use Rattle.std.proofs.Common.{◌≡◌, ℕ, suc, ◌≤◌, Bool, true, false, cond, List, [], ◌∷◌, length, Option, None, Some}
use Rattle.std.proofs.Common.{refl, ap, arith, ◌∙◌}
use Rattle.std.specs.List.{cons_option, filter, filter_map}
use Rattle.std.proofs.lemmas.Bool.{cond_both}

-- what is asked of each element holds, and their places rise from a bound on
abbrev pub Rises : {X : Type 0} → (X → Type 0) → (X → ℕ) → ℕ → List X → Type 0
Rises P place low [] = Unit {0}
Rises P place low (x ∷ xs) = P x × (low ≤ place x) × Rises P place (suc (place x)) xs

pub rises_from : {X : Type 0} (P : X → Type 0) (place : X → ℕ) (low high : ℕ) (xs : List X) → low ≤ high
    → Rises P place high xs → Rises P place low xs
rises_from P place low high [] h r = tt
rises_from P place low high (x ∷ xs) h r = (r.0, omega (arith, h, r.1), r.2)

pub rises_filter : {X : Type 0} (P : X → Type 0) (place : X → ℕ) (test : X → Bool) (low : ℕ) (xs : List X)
    → Rises P place low xs → Rises P place low (filter test xs)
rises_filter P place test low [] r = tt
rises_filter P place test low (x ∷ xs) r =
    let rest = rises_filter P place test (suc (place x)) xs r.2 in
    cond_both (test x) (x ∷ filter test xs) (filter test xs) (Rises P place low) (λ t. (r.0, r.1, rest))
    (λ f. rises_from P place low (suc (place x)) (filter test xs) (omega (arith, r.1)) rest)

-- what comes of an element, if anything, has its place
pub rises_option : {Y : Type 0} (Q : Y → Type 0) (place : Y → ℕ) (low k : ℕ) (o : Option Y) (ys : List Y)
    → ((y : Y) → o ≡ Some y → Q y × (place y ≡ k)) → low ≤ k → Rises Q place (suc k) ys
    → Rises Q place low (cons_option o ys)
rises_option Q place low k None ys f h r = rises_from Q place low (suc k) ys (omega (arith, h)) r
rises_option Q place low k (Some y) ys f h r =
    let own = f y refl in
    (own.0, omega (arith, h, own.1), rises_from Q place (suc (place y)) (suc k) ys (omega (arith, own.1)) r)

pub rises_filter_map : {X Y : Type 0} (P : X → Type 0) (Q : Y → Type 0) (at : X → ℕ) (place : Y → ℕ)
    (h : X → Option Y) → ((x : X) → P x → (y : Y) → h x ≡ Some y → Q y × (place y ≡ at x))
    → (low : ℕ) (xs : List X) → Rises P at low xs → Rises Q place low (filter_map h xs)
rises_filter_map P Q at place h f low [] r = tt
rises_filter_map P Q at place h f low (x ∷ xs) r =
    rises_option Q place low (at x) (h x) (filter_map h xs) (f x r.0) r.1
    (rises_filter_map P Q at place h f (suc (at x)) xs r.2)

-- a test that holds of what is asked keeps all
pub filter_all : {X : Type 0} (P : X → Type 0) (place : X → ℕ) (test : X → Bool) → ((x : X) → P x → test x ≡ true)
    → (low : ℕ) (xs : List X) → Rises P place low xs → filter test xs ≡ xs
filter_all P place test f low [] r = refl
filter_all P place test f low (x ∷ xs) r =
    ap (λ b. cond b (x ∷ filter test xs) (filter test xs)) (f x r.0)
    ∙ ap (λ (ys : List _). x ∷ ys) (filter_all P place test f (suc (place x)) xs r.2)

pub filter_none : {X : Type 0} (test : X → Bool) → ((x : X) → test x ≡ false) → (xs : List X) → filter test xs ≡ []
filter_none test f [] = refl
filter_none test f (x ∷ xs) =
    ap (λ b. cond b (x ∷ filter test xs) (filter test xs)) (f x) ∙ filter_none test f xs

-- no more are left
pub filter_few : {X : Type 0} (test : X → Bool) (xs : List X) → length (filter test xs) ≤ length xs
filter_few test [] = omega arith
filter_few test (x ∷ xs) =
    let rest = filter_few test xs in
    cond_both (test x) (x ∷ filter test xs) (filter test xs) (λ (ys : List _). length ys ≤ suc (length xs))
    (λ t. omega (arith, rest)) (λ f. omega (arith, rest))

pub filter_map_few : {X Y : Type 0} (h : X → Option Y) (xs : List X) → length (filter_map h xs) ≤ length xs
filter_map_few h [] = omega arith
filter_map_few h (x ∷ xs) = one (h x) (filter_map_few h xs)
  where
    one : (o : Option _) → length (filter_map h xs) ≤ length xs
        → length (cons_option o (filter_map h xs)) ≤ suc (length xs)
    one None few = omega (arith, few)
    one (Some y) few = omega (arith, few)
