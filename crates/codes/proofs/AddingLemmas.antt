-- A range that is added to sorted ranges.
use Rattle.std.proofs.Common.{◌≡◌, ℕ, zero, suc, ◌+◌, ◌-◌, ◌<◌, ◌≤◌, ◌||◌, Bool, true, false, cond, List, [], ◌∷◌, ◌++◌}
use Rattle.std.proofs.Common.{length, take, drop, append_assoc, nat_le, nat_lt, sym, ap, subst, ◌∙◌, refl, arith, inl}
use Rattle.std.proofs.Common.{inr}
use Rattle.std.proofs.lemmas.List.{drop_more, take_more, drop_all}
use Rattle.std.proofs.lemmas.Bool.{cases_lt}
use Rattle.std.proofs.lemmas.Bool.Decides.{nat_tests}
use Rattle.codes.specs.Order.{IsFirstReaching}
use Rattle.codes.specs.Inside.{absorbed, hull, range_end, with_range}
use Rattle.codes.specs.Wanted.{AreSeparate, codes_between, either, member}
use Rattle.codes.specs.declared.code_range.CodeRange.{CodeRange}
use Rattle.codes.proofs.RangeLemmas.{range_nth}

abbrev pub has : CodeRange → ℕ → Bool
has r c = codes_between r.first r.last c

pub le_yes : (a b : ℕ) → a ≤ b → nat_le a b ≡ true
le_yes a b h = grind (arith, nat_tests)

pub le_no : (a b : ℕ) → b < a → nat_le a b ≡ false
le_no a b h = grind (arith, nat_tests)

pub lt_yes : (a b : ℕ) → a < b → nat_lt a b ≡ true
lt_yes a b h = grind (arith, nat_tests)

pub lt_no : (a b : ℕ) → b ≤ a → nat_lt a b ≡ false
lt_no a b h = grind (arith, nat_tests)

-- a code is in the hull of two ranges that overlap or touch where it is in one of them
hull_has : (r s : CodeRange) (c : ℕ) → r.first ≤ r.last → s.first ≤ s.last → s.first ≤ r.last + 1 → r.first ≤ s.last + 1
    → has (hull r s) c ≡ (has r c || has s c)
hull_has r s c a b h k = grind (arith, nat_tests)

pub or_assoc : (a b c : Bool) → ((a || b) || c) ≡ (a || (b || c))
or_assoc true b c = refl
or_assoc false b c = refl

or_swap : (a b c : Bool) → (a || (b || c)) ≡ (b || (a || c))
or_swap true true c = refl
or_swap true false c = refl
or_swap false true c = refl
or_swap false false c = refl

-- a lower bound may be lowered
pub separate_lower : (a b : ℕ) (rs : List CodeRange) → b ≤ a → AreSeparate a rs → AreSeparate b rs
separate_lower a b [] h o = tt
separate_lower a b (r ∷ rs) h o = (omega (arith, o.0), o.1, o.2)

-- sorted ranges, none of which ends before r with a gap
abbrev AreAfter : CodeRange → List CodeRange → Type 0
AreAfter r [] = Unit {0}
AreAfter r (s ∷ rs) = (r.first ≤ s.last + 1) × (s.first ≤ s.last) × AreSeparate (s.last + 2) rs

after_next : (r s : CodeRange) (rs : List CodeRange) → r.first ≤ s.last + 1 → AreSeparate (s.last + 2) rs
    → AreAfter (hull r s) rs
after_next r s [] h o = tt
after_next r s (t ∷ rs) h o = (omega (arith, o.0, o.1), o.1, o.2)

member_absorbed : (r : CodeRange) (rs : List CodeRange) (c : ℕ) → r.first ≤ r.last → AreAfter r rs
    → member (absorbed r rs) c ≡ (has r c || member rs c)
member_absorbed r [] c h o = refl
member_absorbed r (s ∷ rs) c h o =
    elim (cases_lt (r.last + 1) s.first) [
      | inl x ↦ ap (λ (b : Bool). member (cond b (absorbed (hull r s) rs) (r ∷ s ∷ rs)) c)
          (le_no s.first (r.last + 1) x)
      | inr x ↦
          ap (λ (b : Bool). member (cond b (absorbed (hull r s) rs) (r ∷ s ∷ rs)) c) (le_yes s.first (r.last + 1) x)
          ∙ (member_absorbed (hull r s) rs c (omega (arith, h, o.1)) (after_next r s rs o.0 o.2)
          ∙ (ap (λ (b : Bool). b || member rs c) (hull_has r s c h o.1 x o.0)
          ∙ or_assoc (has r c) (has s c) (member rs c)))
    ]

separate_absorbed : (low : ℕ) (r : CodeRange) (rs : List CodeRange) → low ≤ r.first → r.first ≤ r.last → AreAfter r rs
    → AreSeparate low rs → AreSeparate low (absorbed r rs)
separate_absorbed low r [] a b o p = (a, b, tt)
separate_absorbed low r (s ∷ rs) a b o p =
    elim (cases_lt (r.last + 1) s.first) [
      | inl x ↦ subst (λ (t : Bool). AreSeparate low (cond t (absorbed (hull r s) rs) (r ∷ s ∷ rs)))
          (sym (le_no s.first (r.last + 1) x)) (a, b, (omega arith, o.1, o.2))
      | inr x ↦ subst (λ (t : Bool). AreSeparate low (cond t (absorbed (hull r s) rs) (r ∷ s ∷ rs)))
          (sym (le_yes s.first (r.last + 1) x))
          (separate_absorbed low (hull r s) rs (omega (arith, p.0, a)) (omega (arith, b, o.1))
          (after_next r s rs o.0 o.2) (separate_lower (s.last + 2) low rs (omega (arith, p.0, p.1)) p.2))
    ]

-- what is a member of sorted ranges with one more
pub member-with_range : (low : ℕ) (r : CodeRange) (rs : List CodeRange) (c : ℕ) → r.first ≤ r.last → AreSeparate low rs
    → member (with_range r rs) c ≡ (has r c || member rs c)
member-with_range low r [] c h o = refl
member-with_range low r (s ∷ rs) c h o =
    elim (cases_lt (s.last + 1) r.first) [
      | inl x ↦
          ap (λ (b : Bool). member (cond b (s ∷ with_range r rs) (absorbed r (s ∷ rs))) c)
          (lt_yes (s.last + 1) r.first x)
          ∙ (ap (λ (b : Bool). has s c || b) (member-with_range (s.last + 2) r rs c h o.2)
          ∙ or_swap (has s c) (has r c) (member rs c))
      | inr x ↦
          ap (λ (b : Bool). member (cond b (s ∷ with_range r rs) (absorbed r (s ∷ rs))) c)
          (lt_no (s.last + 1) r.first x)
          ∙ member_absorbed r (s ∷ rs) c h (x, o.1, o.2)
    ]

separate-with_range : (low : ℕ) (r : CodeRange) (rs : List CodeRange) → low ≤ r.first → r.first ≤ r.last
    → AreSeparate low rs → AreSeparate low (with_range r rs)
separate-with_range low r [] a h o = (a, h, tt)
separate-with_range low r (s ∷ rs) a h o =
    elim (cases_lt (s.last + 1) r.first) [
      | inl x ↦ subst (λ (t : Bool). AreSeparate low (cond t (s ∷ with_range r rs) (absorbed r (s ∷ rs))))
          (sym (lt_yes (s.last + 1) r.first x))
          (o.0, o.1, separate-with_range (s.last + 2) r rs (omega arith) h o.2)
      | inr x ↦ subst (λ (t : Bool). AreSeparate low (cond t (s ∷ with_range r rs) (absorbed r (s ∷ rs))))
          (sym (lt_no (s.last + 1) r.first x))
          (separate_absorbed low r (s ∷ rs) a h (x, o.1, o.2) o)
    ]

-- for the set
pub wanted_separate : (r : CodeRange) (rs : List CodeRange) → r.first ≤ r.last → AreSeparate 0 rs
    → AreSeparate 0 (with_range r rs)
wanted_separate r rs h o = separate-with_range 0 r rs (omega arith) h o

wanted_codes : (r : CodeRange) (rs : List CodeRange) → r.first ≤ r.last → AreSeparate 0 rs
    → member (with_range r rs) ≡ either (has r) (member rs)
wanted_codes r rs h o = λ i c. member-with_range 0 r rs c h o i

-- by places: the ranges that end before, with a gap, stay in front
with_range_behind : (r : CodeRange) (rs : List CodeRange) (i : ℕ) → i < length rs → (range_nth rs i).last + 1 < r.first
    → with_range r (drop i rs) ≡ range_nth rs i ∷ with_range r (drop (i + 1) rs)
with_range_behind r rs i l h =
    let a : CodeRange = range_nth rs i in
    ap (with_range r) (drop_more rs i (record { first = 0; last = 0 }) l)
    ∙ ap (λ (b : Bool). cond b (a ∷ with_range r (drop (i + 1) rs)) (absorbed r (a ∷ drop (i + 1) rs)))
    (lt_yes (a.last + 1) r.first h)

in_front : (r : CodeRange) (rs : List CodeRange) (i : ℕ) → i ≤ length rs
    → ((k : ℕ) → k < i → (range_nth rs k).last + 1 < r.first) → with_range r rs ≡ take i rs ++ with_range r (drop i rs)
in_front r rs zero l f = refl
in_front r rs (suc i) l f =
    let e : i + 1 ≡ suc i = omega arith in
    in_front r rs i (omega (arith, l)) (λ k h. f k (omega (arith, h)))
    ∙ (ap (λ (t : List CodeRange). take i rs ++ t) (with_range_behind r rs i (omega (arith, l)) (f i (omega arith)))
    ∙ (sym (append_assoc (take i rs) (range_nth rs i ∷ []) (with_range r (drop (i + 1) rs)))
    ∙ (ap (λ (t : List CodeRange). t ++ with_range r (drop (i + 1) rs))
    (sym (take_more rs i (record { first = 0; last = 0 }) (omega (arith, l))))
    ∙ ap (λ (k : ℕ). take k rs ++ with_range r (drop k rs)) e)))

-- and the first that does not is where one more range goes in
pub with_range_at : (r : CodeRange) (rs : List CodeRange) (i : ℕ)
    → IsFirstReaching (range_end rs) (length rs) (r.first - 1) i → with_range r rs ≡ take i rs ++ absorbed r (drop i rs)
with_range_at r rs i p =
    in_front r rs i p.within (λ k h. omega (arith, p.before k h)) ∙ ap (λ (t : List CodeRange). take i rs ++ t)
    (elim (cases_lt i (length rs)) [
      | inl x ↦
          let a : CodeRange = range_nth rs i in
          let q : drop i rs ≡ a ∷ drop (i + 1) rs = drop_more rs i (record { first = 0; last = 0 }) x in
          ap (with_range r) q
          ∙ (ap (λ (b : Bool). cond b (a ∷ with_range r (drop (i + 1) rs)) (absorbed r (a ∷ drop (i + 1) rs)))
          (lt_no (a.last + 1) r.first (omega (arith, p.here x)))
          ∙ ap (absorbed r) (sym q))
      | inr x ↦ let q : drop i rs ≡ [] = drop_all i rs x in ap (with_range r) q ∙ ap (absorbed r) (sym q)
    ])

pub absorbed_on : (r : CodeRange) (rs : List CodeRange) (i : ℕ) → i < length rs → (range_nth rs i).first ≤ r.last + 1
    → absorbed r (drop i rs) ≡ absorbed (hull r (range_nth rs i)) (drop (i + 1) rs)
absorbed_on r rs i l h =
    let a : CodeRange = range_nth rs i in
    ap (absorbed r) (drop_more rs i (record { first = 0; last = 0 }) l)
    ∙ ap (λ (b : Bool). cond b (absorbed (hull r a) (drop (i + 1) rs)) (r ∷ a ∷ drop (i + 1) rs))
    (le_yes a.first (r.last + 1) h)

pub absorbed_stop : (r : CodeRange) (rs : List CodeRange) (i : ℕ) → i < length rs → r.last + 1 < (range_nth rs i).first
    → absorbed r (drop i rs) ≡ r ∷ drop i rs
absorbed_stop r rs i l h =
    let a : CodeRange = range_nth rs i in
    let q : drop i rs ≡ a ∷ drop (i + 1) rs = drop_more rs i (record { first = 0; last = 0 }) l in
    ap (absorbed r) q
    ∙ (ap (λ (b : Bool). cond b (absorbed (hull r a) (drop (i + 1) rs)) (r ∷ a ∷ drop (i + 1) rs))
    (le_no a.first (r.last + 1) h)
    ∙ ap (λ (t : List CodeRange). r ∷ t) (sym q))

pub absorbed_end : (r : CodeRange) (rs : List CodeRange) (i : ℕ) → length rs ≤ i → absorbed r (drop i rs) ≡ r
    ∷ drop i rs
absorbed_end r rs i l = ap (absorbed r) (drop_all i rs l) ∙ ap (λ (t : List CodeRange). r ∷ t) (sym (drop_all i rs l))

-- what the set of codes is, once a range is added
pub wanted_added : (r : CodeRange) (rs ns old : List CodeRange) → r.first ≤ r.last → AreSeparate 0 rs
    → ns ≡ with_range r rs → rs ≡ old → member ns ≡ either (codes_between r.first r.last) (member old)
wanted_added r rs ns old h o e same = ap member e
    ∙ (wanted_codes r rs h o ∙ ap (λ (t : List CodeRange). either (codes_between r.first r.last) (member t)) same)
