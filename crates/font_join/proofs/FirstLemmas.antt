-- A search over the numbers below a bound, as a loop goes through them.
use Rattle.std.proofs.Common.{◌≡◌, ℕ, zero, suc, ◌+◌, ◌-◌, ◌<◌, ◌≤◌, Bool, true, false, find, refl, subst, ◌∙◌, ap}
use Rattle.std.proofs.Common.{arith, inl, inr, Some, None}
use Rattle.std.specs.List.{range_with_len}
use Rattle.std.proofs.lemmas.Bool.{cases_lt}
use Rattle.sfnt_bytes.proofs.RangeLemmas.{range_with_len-end, range_with_len-step}
use Rattle.font_file.proofs.FontLemmas.{find_step}

pub first_found : (p : ℕ → Bool) (i n : ℕ) → i < n → p i ≡ true → find p (range_with_len i (n - i)) ≡ Some i
first_found p i n low passes = ap (find p) (range_with_len-step i n low) ∙ rw passes refl

pub first_end : (p : ℕ → Bool) (i n : ℕ) → n ≤ i → find p (range_with_len i (n - i)) ≡ None
first_end p i n past = ap (find p) (range_with_len-end i n past)

-- numbers that all fail may be passed over
skip_by : (p : ℕ → Bool) (n d i : ℕ) → i + d ≤ n → ((c : ℕ) → i ≤ c → c < i + d → p c ≡ false)
    → find p (range_with_len i (n - i)) ≡ find p (range_with_len (i + d) (n - (i + d)))
skip_by p n zero i h fails = let e : i ≡ i + 0 = omega arith in ap (λ (j : ℕ). find p (range_with_len j (n - j))) e
skip_by p n (suc d) i h fails =
    let e : (i + 1) + d ≡ i + suc d = omega arith in
    find_step p i n (omega arith) (fails i (omega arith) (omega arith))
    ∙ skip_by p n d (i + 1) (omega arith) (λ c a b. fails c (omega arith) (omega arith))
    ∙ ap (λ (j : ℕ). find p (range_with_len j (n - j))) e

pub first_skip : (p : ℕ → Bool) (n i j : ℕ) → i ≤ j → j ≤ n → ((c : ℕ) → i ≤ c → c < j → p c ≡ false)
    → find p (range_with_len i (n - i)) ≡ find p (range_with_len j (n - j))
first_skip p n i j a b fails =
    let e : i + (j - i) ≡ j = omega arith in
    skip_by p n (j - i) i (omega arith) (λ c x y. fails c x (omega arith))
    ∙ ap (λ (k : ℕ). find p (range_with_len k (n - k))) e

pub first_none : (p : ℕ → Bool) (n i : ℕ) → ((c : ℕ) → i ≤ c → p c ≡ false) → find p (range_with_len i (n - i)) ≡ None
first_none p n i fails = elim (cases_lt i n) [
  | inl low ↦ first_skip p n i n (omega arith) (omega arith) (λ c a b. fails c a) ∙ first_end p n n (omega arith)
  | inr past ↦ first_end p i n past
]

from_zero : (p : ℕ → Bool) (n : ℕ) → find p (range_with_len 0 n) ≡ find p (range_with_len 0 (n - 0))
from_zero p n = let e : n ≡ n - 0 = omega arith in ap (λ (k : ℕ). find p (range_with_len 0 k)) e

-- the first number that passes, where a search passes over numbers that fail
pub first_of : (p : ℕ → Bool) (i n : ℕ) → i < n → ((c : ℕ) → c < i → p c ≡ false) → p i ≡ true
    → find p (range_with_len 0 n) ≡ Some i
first_of p i n low below passes = from_zero p n ∙ first_skip p n 0 i (omega arith) (omega (arith, low))
    (λ c a b. below c b) ∙ first_found p i n low passes

pub fails_next : (p : ℕ → Bool) (i : ℕ) → ((c : ℕ) → c < i → p c ≡ false) → p i ≡ false → (c : ℕ) → c < i + 1
    → p c ≡ false
fails_next p i below fails c low = elim (cases_lt c i) [
  | inl less ↦ below c less
  | inr from ↦ let e : i ≡ c = omega (arith, low, from) in subst (λ (k : ℕ). p k ≡ false) e fails
]

pub fails_skip : (p : ℕ → Bool) (i j : ℕ) → ((c : ℕ) → c < i → p c ≡ false) → ((c : ℕ) → i ≤ c → c < j → p c ≡ false)
    → (c : ℕ) → c < j → p c ≡ false
fails_skip p i j below between c low = elim (cases_lt c i) [
  | inl less ↦ below c less
  | inr from ↦ between c from low
]

pub first_absent : (p : ℕ → Bool) (n : ℕ) → ((c : ℕ) → c < n → p c ≡ false) → find p (range_with_len 0 n) ≡ None
first_absent p n fails = from_zero p n ∙ first_skip p n 0 n (omega arith) (omega arith) (λ c a b. fails c b)
    ∙ first_end p n n (omega arith)
