-- Members in order of their codes, searches by halves, and what a search for a member finds.
use Rattle.std.proofs.Common.{◌≡◌, ℕ, zero, suc, ◌+◌, ◌<◌, ◌≤◌, Bool, true, false, List, [], ◌∷◌, length, get_or, find}
use Rattle.std.proofs.Common.{Some, None, refl, ap, subst, ◌∙◌, arith, inl, inr}
use Rattle.std.proofs.lemmas.Bool.{cases_lt, cond_both}
use Rattle.codes.specs.Order.{Ascends, IsFirstReaching}
use Rattle.codes.specs.Order.{AreInOrder}

-- each member has a code, and is not below the bound
pub in_order_above : {X : Type 0} (first last : X → ℕ) (d : X) (low : ℕ) (xs : List X) → AreInOrder first last low xs
    → (j : ℕ) → j < length xs → (low ≤ first (get_or xs j d)) × (first (get_or xs j d) ≤ last (get_or xs j d))
in_order_above first last d low [] o j l = absurd (omega (arith, l))
in_order_above first last d low (x ∷ xs) o zero l = (o.0, o.1)
in_order_above first last d low (x ∷ xs) o (suc j) l =
    let k = in_order_above first last d (suc (last x)) xs o.2 j (omega (arith, l)) in
    (omega (arith, k.0, o.0, o.1), k.1)

-- a member ends before the ones after it begin
pub in_order_pair : {X : Type 0} (first last : X → ℕ) (d : X) (low : ℕ) (xs : List X) → AreInOrder first last low xs
    → (i j : ℕ) → i < j → j < length xs → last (get_or xs i d) < first (get_or xs j d)
in_order_pair first last d low [] o i j h l = absurd (omega (arith, l))
in_order_pair first last d low (x ∷ xs) o i zero h l = absurd (omega (arith, h))
in_order_pair first last d low (x ∷ xs) o zero (suc j) h l =
    (in_order_above first last d (suc (last x)) xs o.2 j (omega (arith, l))).0
in_order_pair first last d low (x ∷ xs) o (suc i) (suc j) h l =
    in_order_pair first last d (suc (last x)) xs o.2 i j (omega (arith, h)) (omega (arith, l))

-- the ends of members in order ascend
pub in_order_ascends : {X : Type 0} (first last : X → ℕ) (d : X) (xs : List X) (n : ℕ) → length xs ≡ n
    → AreInOrder first last 0 xs → Ascends (λ i. last (get_or xs i d)) n
in_order_ascends first last d xs n e o i j h l =
    let there : j < length xs = omega arith in
    omega (arith, in_order_pair first last d 0 xs o i j h there, (in_order_above first last d 0 xs o j there).1)

-- a search by halves: what it looks for stands between two places
pub record Halves (end : ℕ → ℕ) (n c low high : ℕ) : Type 0 where
  pub order : low ≤ high
  pub within : high ≤ n
  pub below : (k : ℕ) → k < low → end k < c
  pub above : (k : ℕ) → high ≤ k → k < n → c ≤ end k

pub halves_down : (end : ℕ → ℕ) (n c low high m : ℕ) → Ascends end n → Halves end n c low high → low ≤ m → m < high
    → c ≤ end m → Halves end n c low m
halves_down end n c low high m o h a b l =
    record {
      order = a;
      within = omega (arith, h.within);
      below = h.below;
      above = λ k x y. elim (cases_lt m k) [
        | inl z ↦ omega (arith, o m k z y)
        | inr z ↦ let q : m ≡ k = omega arith in subst (λ (i : ℕ). c ≤ end i) q l
      ];
    }

pub halves_up : (end : ℕ → ℕ) (n c low high m : ℕ) → Ascends end n → Halves end n c low high → low ≤ m → m < high
    → end m < c → Halves end n c (m + 1) high
halves_up end n c low high m o h a b l =
    record {
      order = omega arith;
      within = h.within;
      below = λ k x. elim (cases_lt k m) [
        | inl z ↦ omega (arith, o k m z (omega (arith, h.within)))
        | inr z ↦ let q : m ≡ k = omega arith in subst (λ (i : ℕ). end i < c) q l
      ];
      above = h.above;
    }

-- the first member that ends at a code or above it is the one after a member that ends below the code
pub first_behind : (end : ℕ → ℕ) (n c place : ℕ) → Ascends end n → place < n → end place < c
    → (place + 1 < n → c ≤ end (place + 1)) → IsFirstReaching end n c (place + 1)
first_behind end n c place o lt below here =
    record {
      within = omega (arith, lt);
      before = λ k x. elim (cases_lt k place) [
        | inl z ↦ omega (arith, o k place z lt, below)
        | inr z ↦ let q : place ≡ k = omega (arith, x, z) in subst (λ (i : ℕ). end i < c) q below
      ];
      here = here;
    }

-- the first member that passes, by its place
pub find_at : {X : Type 0} (p : X → Bool) (d : X) (xs : List X) (i : ℕ) → i < length xs → p (get_or xs i d) ≡ true
    → ((k : ℕ) → k < i → p (get_or xs k d) ≡ false) → find p xs ≡ Some (get_or xs i d)
find_at p d [] i l t f = absurd (omega (arith, l))
find_at p d (x ∷ xs) zero l t f = rw t refl
find_at p d (x ∷ xs) (suc i) l t f =
    let no : p x ≡ false = f 0 (omega arith) in
    rw no (find_at p d xs i (omega (arith, l)) t (λ k h. f (suc k) (omega (arith, h))))

pub find_none : {X : Type 0} (p : X → Bool) (d : X) (xs : List X)
    → ((k : ℕ) → k < length xs → p (get_or xs k d) ≡ false) → find p xs ≡ None
find_none p d [] f = refl
find_none p d (x ∷ xs) f =
    let no : p x ≡ false = f 0 (omega arith) in
    rw no (find_none p d xs (λ k h. f (suc k) (omega (arith, h))))

-- the first member that passes one test is the first that passes a narrower one, if it passes that
pub find_narrower : {X : Type 0} (p q : X → Bool) (xs : List X) (x : X) → find p xs ≡ Some x
    → ((y : X) → p y ≡ false → q y ≡ false) → q x ≡ true → find q xs ≡ Some x
find_narrower p q [] x e n t = cc
find_narrower p q (y ∷ ys) x e n t =
    cond_both (p y) (Some y) (find p ys) (λ o. o ≡ Some x → find q (y ∷ ys) ≡ Some x)
    (λ b same. let is : y ≡ x = cc in let yes : q y ≡ true = ap q is ∙ t in rw yes same)
    (λ b rest. let no : q y ≡ false = n y b in rw no (find_narrower p q ys x rest n t))
    e

pub find_narrower_none : {X : Type 0} (p q : X → Bool) (xs : List X) → find p xs ≡ None
    → ((y : X) → p y ≡ false → q y ≡ false) → find q xs ≡ None
find_narrower_none p q [] e n = refl
find_narrower_none p q (y ∷ ys) e n =
    cond_both (p y) (Some y) (find p ys) (λ o. o ≡ None → find q (y ∷ ys) ≡ None)
    (λ b same. cc)
    (λ b rest. let no : q y ≡ false = n y b in rw no (find_narrower_none p q ys rest n))
    e
