-- Look-ups in sorted ranges.
use Rattle.std.proofs.Common.{◌≡◌, ℕ, zero, suc, ◌+◌, ◌<◌, ◌≤◌, ◌⊎◌, ◌||◌, Bool, true, false, List, [], ◌∷◌, length}
use Rattle.std.proofs.Common.{max, ap, subst, ◌∙◌, refl, arith, inl, inr}
use Rattle.std.proofs.lemmas.Bool.{cases_lt}
use Rattle.std.proofs.lemmas.Bool.Decides.{nat_tests}
use Rattle.codes.specs.Order.{Ascends, IsFirstReaching}
pub use Rattle.codes.specs.Inside.{range_nth}
use Rattle.codes.specs.Inside.{range_end}
use Rattle.codes.specs.Wanted.{AreSeparate, IsRow, NoRow, codes_between, member}
use Rattle.codes.specs.declared.code_range.CodeRange.{CodeRange}

-- each range has a code, and is not below the bound
pub separate_above : (low : ℕ) (rs : List CodeRange) → AreSeparate low rs → (j : ℕ) → j < length rs
    → (low ≤ (range_nth rs j).first) × ((range_nth rs j).first ≤ (range_nth rs j).last)
separate_above low [] o j l = absurd (omega (arith, l))
separate_above low (r ∷ rs) o zero l = (o.0, o.1)
separate_above low (r ∷ rs) o (suc j) l = let k = separate_above (r.last + 2) rs o.2 j (omega (arith, l)) in
    (omega (arith, k.0, o.0, o.1), k.1)

-- a range ends before the ones after it begin
pub separate_pair : (low : ℕ) (rs : List CodeRange) → AreSeparate low rs → (i j : ℕ) → i < j → j < length rs
    → (range_nth rs i).last < (range_nth rs j).first
separate_pair low [] o i j h l = absurd (omega (arith, l))
separate_pair low (r ∷ rs) o i zero h l = absurd (omega (arith, h))
separate_pair low (r ∷ rs) o zero (suc j) h l =
    omega (arith, (separate_above (r.last + 2) rs o.2 j (omega (arith, l))).0)
separate_pair low (r ∷ rs) o (suc i) (suc j) h l =
    separate_pair (r.last + 2) rs o.2 i j (omega (arith, h)) (omega (arith, l))

pub ranges_ascend : (rs : List CodeRange) → AreSeparate 0 rs → Ascends (range_end rs) (length rs)
ranges_ascend rs o i j h l = omega (arith, separate_pair 0 rs o i j h l, (separate_above 0 rs o j l).1)

-- tests
between_yes : (r : CodeRange) (c : ℕ) → r.first ≤ c → c ≤ r.last → codes_between r.first r.last c ≡ true
between_yes r c h k = grind (arith, nat_tests)

between_below : (r : CodeRange) (c : ℕ) → c < r.first → codes_between r.first r.last c ≡ false
between_below r c h = grind (arith, nat_tests)

between_above : (r : CodeRange) (c : ℕ) → r.last < c → codes_between r.first r.last c ≡ false
between_above r c h = grind (arith, nat_tests)

or_true : (a : Bool) → (a || true) ≡ true
or_true true = refl
or_true false = refl

member_none : (rs : List CodeRange) (c : ℕ)
    → ((k : ℕ) → k < length rs → codes_between (range_nth rs k).first (range_nth rs k).last c ≡ false)
    → member rs c ≡ false
member_none [] c f = refl
member_none (r ∷ rs) c f = ap (λ (b : Bool). b || member rs c) (f 0 (omega arith))
    ∙ member_none rs c (λ k h. f (suc k) (omega arith))

-- a code of the range at a place
pub member_at : (rs : List CodeRange) (c i : ℕ) → i < length rs → (range_nth rs i).first ≤ c → c ≤ (range_nth rs i).last
    → member rs c ≡ true
member_at [] c i l h k = absurd (omega (arith, l))
member_at (r ∷ rs) c zero l h k = ap (λ (b : Bool). b || member rs c) (between_yes r c h k)
member_at (r ∷ rs) c (suc i) l h k =
    ap (λ (b : Bool). codes_between r.first r.last c || b) (member_at rs c i (omega (arith, l)) h k)
    ∙ or_true (codes_between r.first r.last c)

-- a code after all ranges before a place, and before the range there
pub member_between : (rs : List CodeRange) (from c i : ℕ) → AreSeparate 0 rs
    → IsFirstReaching (range_end rs) (length rs) from i → from ≤ c → (i < length rs → c < (range_nth rs i).first)
    → member rs c ≡ false
member_between rs from c i o p h f =
    member_none rs c (λ k y. elim (cases_lt k i) [
      | inl z ↦ between_above (range_nth rs k) c (omega (arith, p.before k z, h))
      | inr z ↦
          let x : i < length rs = omega arith in
          elim (cases_lt i k) [
            | inl w ↦ between_below (range_nth rs k) c (omega (
              arith,
              separate_pair 0 rs o i k w y,
              (separate_above 0 rs o i x).1,
              f x,
            ))
            | inr w ↦ let q : i ≡ k = omega arith in
                between_below (range_nth rs k) c (subst (λ (j : ℕ). c < (range_nth rs j).first) q (f x))
          ]
    ])

pub row_none : (rs : List CodeRange) (from i : ℕ) → AreSeparate 0 rs → IsFirstReaching (range_end rs) (length rs) from i
    → length rs ≤ i → NoRow (member rs) from
row_none rs from i o p h c k = member_between rs from c i o p k (λ l. absurd (omega (arith, l, h)))

pub row_some : (rs : List CodeRange) (from i first : ℕ) → AreSeparate 0 rs
    → IsFirstReaching (range_end rs) (length rs) from i → i < length rs → first ≡ max from (range_nth rs i).first
    → IsRow (member rs) from (record { first = first; last = (range_nth rs i).last })
row_some rs from i first o p l e =
    let low : from ≤ first = grind arith in
    let high : (range_nth rs i).first ≤ first = grind arith in
    let least : (first ≡ from) ⊎ (first ≡ (range_nth rs i).first) = grind arith in
    let here : from ≤ (range_nth rs i).last = p.here l in
    let order : (range_nth rs i).first ≤ (range_nth rs i).last = (separate_above 0 rs o i l).1 in
    record {
      from_on = low;
      order = elim least [ inl x ↦ omega (arith, x, here) | inr x ↦ omega (arith, x, order) ];
      least = λ c k y. member_between rs from c i o p k (λ _. elim least [
        | inl x ↦
            absurd (omega (arith, x, k, y))
        | inr x ↦ omega (arith, x, y)
      ]);
      all = λ c k y. member_at rs c i l (omega (arith, high, k)) y;
    }
