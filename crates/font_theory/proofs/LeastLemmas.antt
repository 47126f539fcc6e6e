-- The least number of a range that passes a test.
use Rattle.std.proofs.Common.{◌≡◌, ℕ, zero, suc, ◌+◌, ◌<◌, ◌≤◌, Bool, true, false, inl, inr, find, sym, ◌∙◌, ap, subst}
use Rattle.std.proofs.Common.{arith, zero-add, Some, None, get_or}
use Rattle.std.specs.List.{range_with_len}
use Rattle.std.proofs.lemmas.Bool.{cases_Bool, cases_eq}
use Rattle.std.proofs.lemmas.List.FromFn.{get_or-range_with_len, length-range_with_len}
use Rattle.sfnt_bytes.proofs.LineLemmas.{find-none_at}

-- j is the least number from k on that passes, and lies below a stop
pub record IsLeast (p : ℕ → Bool) (k stop j : ℕ) : Type 0 where
  pub passes : p j ≡ true
  pub from : k ≤ j
  pub below : j < stop
  pub before : (i : ℕ) → k ≤ i → i < j → p i ≡ false

least_here : (p : ℕ → Bool) (k n : ℕ) → p k ≡ true → IsLeast p k (k + suc n) k
least_here p k n t = record {
  passes = t;
  from = omega arith;
  below = omega arith;
  before = λ i a b. absurd (omega arith);
}

least_later : (p : ℕ → Bool) (k n j : ℕ) → p k ≡ false → IsLeast p (k + 1) (k + 1 + n) j → IsLeast p k (k + suc n) j
least_later p k n j f w =
    let low = w.from in
    let high = w.below in
    record {
      passes = w.passes;
      from = omega arith;
      below = omega arith;
      before = λ i a b. elim (cases_eq k i) [
        | inl e ↦ subst (λ (x : ℕ). p x ≡ false) e f
        | inr ne ↦
            w.before i (omega arith) b
      ];
    }

pub find-least_from : (p : ℕ → Bool) (k n j : ℕ) → find p (range_with_len k n) ≡ Some j → IsLeast p k (k + n) j
find-least_from p k zero j h = cc
find-least_from p k (suc n) j h =
    elim (cases_Bool (p k)) [
      | inl t ↦
          let h' : Some k ≡ Some j = rw t at h in
          let e : k ≡ j = cc in
          subst (λ (x : ℕ). IsLeast p k (k + suc n) x) e (least_here p k n t)
      | inr f ↦
          let h' : find p (range_with_len (k + 1) n) ≡ Some j = rw f at h in
          least_later p k n j f (find-least_from p (k + 1) n j h')
    ]

pub find-least : (p : ℕ → Bool) (n j : ℕ) → find p (range_with_len 0 n) ≡ Some j → IsLeast p 0 n j
find-least p n j h = subst (λ (stop : ℕ). IsLeast p 0 stop j) (zero-add n) (find-least_from p 0 n j h)

pub find-none : (p : ℕ → Bool) (n i : ℕ) → find p (range_with_len 0 n) ≡ None → i < n → p i ≡ false
find-none p n i h low =
    let long = length-range_with_len 0 n in
    let there : get_or (range_with_len 0 n) i 0 ≡ i = get_or-range_with_len 0 n i 0 low ∙ zero-add i in
    sym (ap p there) ∙ find-none_at p (range_with_len 0 n) i 0 h (omega arith)
