-- A range whose codes are taken away from sorted ranges.
use Rattle.std.proofs.Common.{◌≡◌, ℕ, zero, suc, ◌+◌, ◌-◌, ◌<◌, ◌≤◌, ◌||◌, Bool, true, false, cond, List, [], ◌∷◌, ◌++◌}
use Rattle.std.proofs.Common.{length, take, drop, append_assoc, max, min, sym, ap, subst, ◌∙◌, refl, arith, inl, inr}
use Rattle.std.proofs.lemmas.List.{drop_more, take_more, drop_all}
use Rattle.std.proofs.lemmas.Bool.{cases_lt}
use Rattle.std.proofs.lemmas.Bool.Decides.{nat_tests}
use Rattle.codes.specs.Order.{IsFirstReaching}
use Rattle.codes.specs.Inside.{IsPartAbove, IsPartBelow, part_above, part_below, range_end, range_nth, without_range}
use Rattle.codes.specs.Wanted.{AreSeparate, but_for, codes_between, member}
use Rattle.codes.specs.declared.code_range.CodeRange.{CodeRange}
use Rattle.codes.proofs.AddingLemmas.{has, lt_no, lt_yes, or_assoc, separate_lower}
use Rattle.codes.proofs.RangeLemmas.{separate_above, separate_pair}

-- the range from one code to another
abbrev span : ℕ → ℕ → CodeRange
span first last = record { first = first; last = last }

-- the parts of a range
below_none : (a b : CodeRange) → a.first ≤ b.first → part_below a b ≡ []
below_none a b h = ap (λ (t : Bool). cond t (span b.first (min b.last (a.first - 1)) ∷ []) []) (lt_no b.first a.first h)

below_some : (a b : CodeRange) → b.first < a.first → part_below a b ≡ span b.first (min b.last (a.first - 1)) ∷ []
below_some a b h = ap (λ (t : Bool). cond t (span b.first (min b.last (a.first - 1)) ∷ []) [])
    (lt_yes b.first a.first h)

above_none : (a b : CodeRange) → b.last ≤ a.last → part_above a b ≡ []
above_none a b h = ap (λ (t : Bool). cond t (span (max b.first (a.last + 1)) b.last ∷ []) []) (lt_no a.last b.last h)

above_some : (a b : CodeRange) → a.last < b.last → part_above a b ≡ span (max b.first (a.last + 1)) b.last ∷ []
above_some a b h = ap (λ (t : Bool). cond t (span (max b.first (a.last + 1)) b.last ∷ []) []) (lt_yes a.last b.last h)

min_left : (a b : ℕ) → a ≤ b → min a b ≡ a
min_left a b h = grind (arith, nat_tests)

min_right : (a b : ℕ) → b ≤ a → min a b ≡ b
min_right a b h = grind (arith, nat_tests)

max_left : (a b : ℕ) → b ≤ a → max a b ≡ a
max_left a b h = grind (arith, nat_tests)

max_right : (a b : ℕ) → a ≤ b → max a b ≡ b
max_right a b h = grind (arith, nat_tests)

-- a range that ends before another one is all below it, and one that begins after it is all above it
wholly_below : (a b : CodeRange) → a.first ≤ a.last → b.first ≤ b.last → b.last < a.first
    → part_below a b ++ part_above a b ≡ b ∷ []
wholly_below a b h k x =
    ap (λ (t : List CodeRange). t ++ part_above a b) (below_some a b (omega arith)
    ∙ ap (λ (n : ℕ). span b.first n ∷ []) (min_left b.last (a.first - 1) (omega arith)))
    ∙ ap (λ (t : List CodeRange). b ∷ t) (above_none a b (omega arith))

wholly_above : (a b : CodeRange) → a.first ≤ a.last → b.first ≤ b.last → a.last < b.first
    → part_below a b ++ part_above a b ≡ b ∷ []
wholly_above a b h k x =
    ap (λ (t : List CodeRange). t ++ part_above a b) (below_none a b (omega arith))
    ∙ above_some a b (omega arith) ∙ ap (λ (n : ℕ). span n b.last ∷ []) (max_left b.first (a.last + 1) (omega arith))

-- what is a member
member_append : (xs ys : List CodeRange) (c : ℕ) → member (xs ++ ys) c ≡ (member xs c || member ys c)
member_append [] ys c = refl
member_append (x ∷ xs) ys c = ap (λ (t : Bool). has x c || t) (member_append xs ys c)
    ∙ sym (or_assoc (has x c) (member xs c) (member ys c))

parts_have : (a b : CodeRange) (c : ℕ) → a.first ≤ a.last → b.first ≤ b.last
    → (member (part_below a b) c || member (part_above a b) c) ≡ cond (has a c) false (has b c)
parts_have a b c h k =
    elim (cases_lt b.first a.first) [
      | inl x ↦ ap (λ (t : List CodeRange). member t c || member (part_above a b) c) (below_some a b x)
          ∙ elim (cases_lt a.last b.last) [
            | inl y ↦ ap (λ (t : List CodeRange). (has (span b.first (min b.last (a.first - 1))) c || false)
                || member t c) (above_some a b y) ∙ grind (arith, nat_tests)
            | inr y ↦ ap (λ (t : List CodeRange). (has (span b.first (min b.last (a.first - 1))) c || false)
                || member t c) (above_none a b y) ∙ grind (arith, nat_tests)
          ]
      | inr x ↦ ap (λ (t : List CodeRange). member t c || member (part_above a b) c) (below_none a b x)
          ∙ elim (cases_lt a.last b.last) [
            | inl y ↦ ap (λ (t : List CodeRange). member t c) (above_some a b y) ∙ grind (arith, nat_tests)
            | inr y ↦ ap (λ (t : List CodeRange). member t c) (above_none a b y) ∙ grind (arith, nat_tests)
          ]
    ]

none_but : (g : Bool) → false ≡ cond g false false
none_but true = refl
none_but false = refl

or_but : (g x y : Bool) → (cond g false x || cond g false y) ≡ cond g false (x || y)
or_but true x y = refl
or_but false x y = refl

member-without_range : (low : ℕ) (a : CodeRange) (rs : List CodeRange) (c : ℕ) → a.first ≤ a.last → AreSeparate low rs
    → member (without_range a rs) c ≡ but_for (has a) (member rs) c
member-without_range low a [] c h o = none_but (has a c)
member-without_range low a (b ∷ rs) c h o =
    member_append (part_below a b ++ part_above a b) (without_range a rs) c
    ∙ ap (λ (t : Bool). t || member (without_range a rs) c) (member_append (part_below a b) (part_above a b) c)
    ∙ ap (λ (t : Bool). t || member (without_range a rs) c) (parts_have a b c h o.1)
    ∙ ap (λ (t : Bool). cond (has a c) false (has b c) || t) (member-without_range (b.last + 2) a rs c h o.2)
    ∙ or_but (has a c) (has b c) (member rs c)

-- they stay apart
separate-without_range : (low : ℕ) (a : CodeRange) (rs : List CodeRange) → a.first ≤ a.last → AreSeparate low rs
    → AreSeparate low (without_range a rs)
separate-without_range low a [] h o = tt
separate-without_range low a (b ∷ rs) h o =
    let rest = separate-without_range (b.last + 2) a rs h o.2 in
    elim (cases_lt b.first a.first) [
      | inl x ↦ subst (λ (t : List CodeRange). AreSeparate low (t ++ part_above a b ++ without_range a rs))
          (sym (below_some a b x))
          (elim (cases_lt a.last b.last) [
            | inl y ↦ subst (λ (t : List CodeRange). AreSeparate low (span b.first (min b.last (a.first - 1))
                ∷ (t ++ without_range a rs))) (sym (above_some a b y)) (
                  o.0,
                  grind (arith, nat_tests, x, y, h),
                  (grind (arith, nat_tests, x, y, h), grind (arith, nat_tests, x, y, h, o.1), rest),
                )
            | inr y ↦ subst (λ (t : List CodeRange). AreSeparate low (span b.first (min b.last (a.first - 1))
                ∷ (t ++ without_range a rs))) (sym (above_none a b y)) (
                  o.0,
                  grind (arith, nat_tests, x, o.1),
                  separate_lower (b.last + 2) (min b.last (a.first - 1) + 2)
                      (without_range a rs) (grind (arith, nat_tests)) rest,
                )
          ])
      | inr x ↦ subst (λ (t : List CodeRange). AreSeparate low (t ++ part_above a b ++ without_range a rs))
          (sym (below_none a b x))
          (elim (cases_lt a.last b.last) [
            | inl y ↦ subst (λ (t : List CodeRange). AreSeparate low (t ++ without_range a rs)) (sym (above_some a b y))
                (grind (arith, nat_tests, o.0), grind (arith, nat_tests, y, o.1), rest)
            | inr y ↦ subst (λ (t : List CodeRange). AreSeparate low (t ++ without_range a rs)) (sym (above_none a b y))
                (separate_lower (b.last + 2) low (without_range a rs) (omega (arith, o.0, o.1)) rest)
          ])
    ]

-- for the set
pub wanted_separate : (a : CodeRange) (rs : List CodeRange) → a.first ≤ a.last → AreSeparate 0 rs
    → AreSeparate 0 (without_range a rs)
wanted_separate a rs h o = separate-without_range 0 a rs h o

pub wanted_removed : (a : CodeRange) (rs ns old : List CodeRange) → a.first ≤ a.last → AreSeparate 0 rs
    → ns ≡ without_range a rs → rs ≡ old → member ns ≡ but_for (codes_between a.first a.last) (member old)
wanted_removed a rs ns old h o e same = ap member e ∙ ((λ i c. member-without_range 0 a rs c h o i)
    ∙ ap (λ (t : List CodeRange). but_for (codes_between a.first a.last) (member t)) same)

-- by places
abbrev nil : CodeRange
nil = record { first = 0; last = 0 }

at_place : (a : CodeRange) (rs : List CodeRange) (i : ℕ) → i < length rs
    → without_range a (drop i rs) ≡ (part_below a (range_nth rs i) ++ part_above a (range_nth rs i))
    ++ without_range a (drop (i + 1) rs)
at_place a rs i l =
    ap (without_range a) (drop_more rs i nil l)

stays_at : (a : CodeRange) (rs : List CodeRange) (i : ℕ) → i < length rs → part_below a (range_nth rs i)
    ++ part_above a (range_nth rs i) ≡ range_nth rs i ∷ [] → without_range a (drop i rs) ≡ range_nth rs i
    ∷ without_range a (drop (i + 1) rs)
stays_at a rs i l e = at_place a rs i l ∙ ap (λ (t : List CodeRange). t ++ without_range a (drop (i + 1) rs)) e

-- the ranges that end before stay in front
in_front : (a : CodeRange) (rs : List CodeRange) (i : ℕ) → a.first ≤ a.last → AreSeparate 0 rs → i ≤ length rs
    → ((k : ℕ) → k < i → (range_nth rs k).last < a.first) → without_range a rs ≡ take i rs
    ++ without_range a (drop i rs)
in_front a rs zero h o l f = refl
in_front a rs (suc i) h o l f =
    let on : i + 1 ≡ suc i = omega arith in
    let order = (separate_above 0 rs o i (omega (arith, l))).1 in
    in_front a rs i h o (omega (arith, l)) (λ k x. f k (omega (arith, x)))
    ∙ (ap (λ (t : List CodeRange). take i rs ++ t)
    (stays_at a rs i (omega (arith, l)) (wholly_below a (range_nth rs i) h order (f i (omega arith))))
    ∙ (sym (append_assoc (take i rs) (range_nth rs i ∷ []) (without_range a (drop (i + 1) rs)))
    ∙ (ap (λ (t : List CodeRange). t ++ without_range a (drop (i + 1) rs)) (sym (take_more rs i nil (omega (arith, l))))
    ∙ ap (λ (k : ℕ). take k rs ++ without_range a (drop k rs)) on)))

-- those that begin after stay behind
all_above : (a : CodeRange) (low : ℕ) (rs : List CodeRange) → a.first ≤ a.last → a.last < low → AreSeparate low rs
    → without_range a rs ≡ rs
all_above a low [] h x o = refl
all_above a low (b ∷ rs) h x o =
    ap (λ (t : List CodeRange). t ++ without_range a rs) (wholly_above a b h o.1 (omega (arith, x, o.0)))
    ∙ ap (λ (t : List CodeRange). b ∷ t) (all_above a (b.last + 2) rs h (omega (arith, x, o.0, o.1)) o.2)

separate_from : (low : ℕ) (rs : List CodeRange) (j : ℕ) → AreSeparate low rs → j < length rs
    → AreSeparate (range_nth rs j).first (drop j rs)
separate_from low [] j o l = absurd (omega (arith, l))
separate_from low (r ∷ rs) zero o l = (omega arith, o.1, o.2)
separate_from low (r ∷ rs) (suc j) o l = separate_from (r.last + 2) rs j o.2 (omega (arith, l))

behind : (a : CodeRange) (rs : List CodeRange) (j : ℕ) → a.first ≤ a.last → AreSeparate 0 rs
    → (j < length rs → a.last < (range_nth rs j).first) → without_range a (drop j rs) ≡ drop j rs
behind a rs j h o f = elim (cases_lt j (length rs)) [
  | inl x ↦ all_above a (range_nth rs j).first (drop j rs) h (f x) (separate_from 0 rs j o x)
  | inr x ↦ let e : drop j rs ≡ [] = drop_all j rs x in ap (without_range a) e ∙ sym e
]

behind_next : (a : CodeRange) (rs : List CodeRange) (j : ℕ) → a.first ≤ a.last → AreSeparate 0 rs → j < length rs
    → a.last ≤ (range_nth rs j).last → without_range a (drop (j + 1) rs) ≡ drop (j + 1) rs
behind_next a rs j h o l x =
    behind a rs (j + 1) h o (λ y. omega (arith, x, separate_pair 0 rs o j (j + 1) (omega arith) y))

-- those between go
covered : (a : CodeRange) (rs : List CodeRange) (n i : ℕ) → i + n ≤ length rs
    → ((k : ℕ) → i ≤ k → k < i + n → (a.first ≤ (range_nth rs k).first) × ((range_nth rs k).last ≤ a.last))
    → without_range a (drop i rs) ≡ without_range a (drop (i + n) rs)
covered a rs zero i l f = ap (λ (k : ℕ). without_range a (drop k rs)) (omega arith)
covered a rs (suc n) i l f =
    let b : CodeRange = range_nth rs i in
    let here = f i (omega arith) (omega arith) in
    at_place a rs i (omega (arith, l))
    ∙ ap (λ (t : List CodeRange). (t ++ part_above a b) ++ without_range a (drop (i + 1) rs)) (below_none a b here.0)
    ∙ ap (λ (t : List CodeRange). t ++ without_range a (drop (i + 1) rs)) (above_none a b here.1)
    ∙ covered a rs n (i + 1) (omega (arith, l)) (λ k x y. f k (omega (arith, x)) (omega (arith, y)))
    ∙ ap (λ (k : ℕ). without_range a (drop k rs)) (omega arith)

-- where the first ranges stand that end at the first code, and after the last one
record AreEnds (a : CodeRange) (rs : List CodeRange) (i j : ℕ) : Type 0 where
  order : a.first ≤ a.last
  separate : AreSeparate 0 rs
  first : IsFirstReaching (range_end rs) (length rs) a.first i
  last : IsFirstReaching (range_end rs) (length rs) (a.last + 1) j

low_first : (a : CodeRange) (rs : List CodeRange) (i j : ℕ) → AreEnds a rs i j → i ≤ j
low_first a rs i j h = elim (cases_lt j i) [
  | inl x ↦ absurd (omega (arith, h.first.before j x, h.last.here (omega (arith, x, h.first.within)), h.order))
  | inr x ↦ x
]

-- from the first of them that begins in the range, or after it, to the last one
between : (a : CodeRange) (rs : List CodeRange) (i j p : ℕ) → AreEnds a rs i j → i ≤ p → p ≤ j
    → (p < length rs → a.first ≤ (range_nth rs p).first) → without_range a (drop p rs) ≡ without_range a (drop j rs)
between a rs i j p h x y f =
    let long : p + (j - p) ≡ j = omega (arith, y) in
    covered a rs (j - p) p (omega (arith, y, h.last.within))
    (λ k u v.
    let inside : k < length rs = omega (arith, u, v, y, h.last.within) in
    let up : a.first ≤ (range_nth rs k).first = elim (cases_lt p k) [
      | inl z ↦ omega (
        arith,
        f (omega (arith, z, inside)),
        (separate_above 0 rs h.separate p (omega (arith, z, inside))).1,
        separate_pair 0 rs h.separate p k z inside,
      )
      | inr z ↦ let same : k ≡ p = omega (arith, u, z) in
          subst (λ (q : ℕ). a.first ≤ (range_nth rs q).first) (sym same)
          (f (subst (λ (q : ℕ). q < length rs) same inside))
    ] in
    (up, omega (arith, h.last.before k (omega (arith, v, y)))))
    ∙ ap (λ (k : ℕ). without_range a (drop k rs)) long

front_of : (a : CodeRange) (rs : List CodeRange) (i j : ℕ) → AreEnds a rs i j → without_range a rs ≡ take i rs
    ++ without_range a (drop i rs)
front_of a rs i j h = in_front a rs i h.order h.separate h.first.within (λ k x. h.first.before k x)

abbrev NoneBelow : CodeRange → List CodeRange → ℕ → Type 0
NoneBelow a rs i = i < length rs → a.first ≤ (range_nth rs i).first

abbrev NoneAbove : CodeRange → List CodeRange → ℕ → Type 0
NoneAbove a rs j = j < length rs → a.last < (range_nth rs j).first

ends_are : (a : CodeRange) (rs : List CodeRange) (i j : ℕ) → a.first ≤ a.last → AreSeparate 0 rs
    → IsFirstReaching (range_end rs) (length rs) a.first i → IsFirstReaching (range_end rs) (length rs) (a.last + 1) j
    → AreEnds a rs i j
ends_are a rs i j h o p q = record { order = h; separate = o; first = p; last = q }

-- the range at the last place, of which a part stays
part_at : (a : CodeRange) (rs : List CodeRange) (j : ℕ) (above : CodeRange) → a.first ≤ a.last → AreSeparate 0 rs
    → IsPartAbove rs j a above → a.last < (range_nth rs j).last → a.first ≤ (range_nth rs j).first
    → without_range a (drop j rs) ≡ above ∷ drop (j + 1) rs
part_at a rs j above h o p x y =
    let b : CodeRange = range_nth rs j in
    at_place a rs j p.there
    ∙ ap (λ (t : List CodeRange). (t ++ part_above a b) ++ without_range a (drop (j + 1) rs)) (below_none a b y)
    ∙ ap (λ (t : List CodeRange). t ++ without_range a (drop (j + 1) rs)) (above_some a b x)
    ∙ ap (λ (n : ℕ). span n b.last ∷ without_range a (drop (j + 1) rs))
    (max_right b.first (a.last + 1) (omega (arith, p.meets)))
    ∙ ap (λ (r : CodeRange). r ∷ without_range a (drop (j + 1) rs)) (sym p.part)
    ∙ ap (λ (t : List CodeRange). above ∷ t) (behind_next a rs j h o p.there (omega (arith, x)))

-- the range at the first place, of which a part stays, where it ends within the range
part_before : (a : CodeRange) (rs : List CodeRange) (i : ℕ) (below : CodeRange) → a.first ≤ a.last
    → IsPartBelow rs i a below → a.first ≤ (range_nth rs i).last → (range_nth rs i).last ≤ a.last
    → without_range a (drop i rs) ≡ below ∷ without_range a (drop (i + 1) rs)
part_before a rs i below h p x y =
    let b : CodeRange = range_nth rs i in
    at_place a rs i p.there
    ∙ ap (λ (t : List CodeRange). (t ++ part_above a b) ++ without_range a (drop (i + 1) rs)) (below_some a b p.less)
    ∙ ap (λ (t : List CodeRange). (span b.first (min b.last (a.first - 1)) ∷ t) ++ without_range a (drop (i + 1) rs))
    (above_none a b y)
    ∙ ap (λ (n : ℕ). span b.first n ∷ without_range a (drop (i + 1) rs))
    (min_right b.last (a.first - 1) (omega (arith, x)))
    ∙ ap (λ (r : CodeRange). r ∷ without_range a (drop (i + 1) rs)) (sym p.part)

-- what is left, by whether a part stays below and above
pub none_left : (a : CodeRange) (rs : List CodeRange) (i j : ℕ) → a.first ≤ a.last → AreSeparate 0 rs
    → IsFirstReaching (range_end rs) (length rs) a.first i → IsFirstReaching (range_end rs) (length rs) (a.last + 1) j
    → NoneBelow a rs i → NoneAbove a rs j → (i ≤ j) × (without_range a rs ≡ take i rs ++ drop j rs)
none_left a rs i j x o p q below above =
    let h = ends_are a rs i j x o p q in
    let low = low_first a rs i j h in (
      low,
      front_of a rs i j h
          ∙ ap (λ (t : List CodeRange). take i rs ++ t) (between a rs i j i h (omega arith) low below
          ∙ behind a rs j x o above),
    )

pub below_left : (a : CodeRange) (rs : List CodeRange) (i j : ℕ) (below : CodeRange) → a.first ≤ a.last
    → AreSeparate 0 rs → IsFirstReaching (range_end rs) (length rs) a.first i
    → IsFirstReaching (range_end rs) (length rs) (a.last + 1) j → IsPartBelow rs i a below → NoneAbove a rs j
    → (i ≤ j) × (without_range a rs ≡ take i rs ++ below ∷ drop j rs)
below_left a rs i j below x o p q part above =
    let h = ends_are a rs i j x o p q in
    let low = low_first a rs i j h in
    let less : i < j = elim (cases_lt i j) [
      | inl z ↦ z
      | inr z ↦ let same : i ≡ j = omega (arith, z, low) in
          absurd (omega (
            arith,
            part.less,
            x,
            subst (λ (k : ℕ). a.last < (range_nth rs k).first) (sym same)
                (above (subst (λ (k : ℕ). k < length rs) same part.there)),
          ))
    ] in (
      low,
      front_of a rs i j h ∙ ap (λ (t : List CodeRange). take i rs ++ t)
          (part_before a rs i below x part (p.here part.there) (omega (arith, q.before i less))
          ∙ ap (λ (t : List CodeRange). below ∷ t)
          (between a rs i j (i + 1) h (omega arith) (omega (arith, less)) (λ y. omega (
            arith,
            p.here part.there,
            separate_pair 0 rs o i (i + 1) (omega arith) y,
          ))
          ∙ behind a rs j x o above)),
    )

pub above_left : (a : CodeRange) (rs : List CodeRange) (i j : ℕ) (above : CodeRange) → a.first ≤ a.last
    → AreSeparate 0 rs → IsFirstReaching (range_end rs) (length rs) a.first i
    → IsFirstReaching (range_end rs) (length rs) (a.last + 1) j → NoneBelow a rs i → IsPartAbove rs j a above
    → (i ≤ j) × (without_range a rs ≡ take i rs ++ above ∷ drop (j + 1) rs)
above_left a rs i j above x o p q below part =
    let h = ends_are a rs i j x o p q in
    let low = low_first a rs i j h in
    let begins : a.first ≤ (range_nth rs j).first = elim (cases_lt i j) [
      | inl z ↦ omega (arith, p.here (omega (arith, z, part.there)), separate_pair 0 rs o i j z part.there)
      | inr z ↦ let same : i ≡ j = omega (arith, z, low) in
          subst (λ (k : ℕ). a.first ≤ (range_nth rs k).first) same
          (below (subst (λ (k : ℕ). k < length rs) (sym same) part.there))
    ] in (
      low,
      front_of a rs i j h ∙ ap (λ (t : List CodeRange). take i rs ++ t)
          (between a rs i j i h (omega arith) low below
          ∙ part_at a rs j above x o part (omega (arith, q.here part.there)) begins),
    )

pub both_left : (a : CodeRange) (rs : List CodeRange) (i j : ℕ) (below above : CodeRange) → a.first ≤ a.last
    → AreSeparate 0 rs → IsFirstReaching (range_end rs) (length rs) a.first i
    → IsFirstReaching (range_end rs) (length rs) (a.last + 1) j → IsPartBelow rs i a below → IsPartAbove rs j a above
    → (i ≤ j) × (without_range a rs ≡ take i rs ++ below ∷ above ∷ drop (j + 1) rs)
both_left a rs i j below above x o p q lower upper =
    let h = ends_are a rs i j x o p q in
    let low = low_first a rs i j h in
    let b : CodeRange = range_nth rs i in (
      low,
      front_of a rs i j h ∙ ap (λ (t : List CodeRange). take i rs ++ t)
          (elim (cases_lt i j) [
            | inl z ↦
                part_before a rs i below x lower (p.here lower.there) (omega (arith, q.before i z))
                ∙ ap (λ (t : List CodeRange). below ∷ t)
                (between a rs i j (i + 1) h (omega arith) (omega (arith, z)) (λ y. omega (
                  arith,
                  p.here lower.there,
                  separate_pair 0 rs o i (i + 1) (omega arith) y,
                ))
                ∙ part_at a rs j above x o upper (omega (arith, q.here upper.there)) (omega (
                  arith,
                  p.here lower.there,
                  separate_pair 0 rs o i j z upper.there,
                )))
            | inr z ↦
                let same : i ≡ j = omega (arith, z, low) in
                let ends : a.last < b.last =
                subst (λ (k : ℕ). a.last < (range_nth rs k).last) (sym same) (omega (arith, q.here upper.there)) in
                let part : above ≡ span (a.last + 1) b.last =
                subst (λ (k : ℕ). above ≡ span (a.last + 1) (range_nth rs k).last) (sym same) upper.part in
                at_place a rs i lower.there
                ∙ ap (λ (t : List CodeRange). (t ++ part_above a b) ++ without_range a (drop (i + 1) rs))
                (below_some a b lower.less)
                ∙ ap (λ (t : List CodeRange). (span b.first (min b.last (a.first - 1)) ∷ t)
                ++ without_range a (drop (i + 1) rs)) (above_some a b ends)
                ∙ ap (λ (n : ℕ). span b.first n ∷ span (max b.first (a.last + 1)) b.last
                ∷ without_range a (drop (i + 1) rs)) (min_right b.last (a.first - 1) (omega (arith, x, ends)))
                ∙ ap (λ (n : ℕ). span b.first (a.first - 1) ∷ span n b.last ∷ without_range a (drop (i + 1) rs))
                (max_right b.first (a.last + 1) (omega (arith, lower.less, x)))
                ∙ ap (λ (r : CodeRange). r ∷ span (a.last + 1) b.last ∷ without_range a (drop (i + 1) rs))
                (sym lower.part)
                ∙ ap (λ (r : CodeRange). below ∷ r ∷ without_range a (drop (i + 1) rs)) (sym part)
                ∙ ap (λ (t : List CodeRange). below ∷ above ∷ t)
                (behind_next a rs i x o lower.there (omega (arith, ends)))
                ∙ ap (λ (k : ℕ). below ∷ above ∷ drop (k + 1) rs) same
          ]),
    )

-- two ranges in the place of others: one is put in before them, and then the other one in their place
two_put : (xs : List CodeRange) (i j : ℕ) (b a : CodeRange) → i < j → j ≤ length xs
    → take (suc i) (take i xs ++ b ∷ drop i xs) ++ a ∷ drop (suc j) (take i xs ++ b ∷ drop i xs) ≡ take i xs ++ b ∷ a
    ∷ drop j xs
two_put [] i j b a h l = absurd (omega (arith, h, l))
two_put (x ∷ xs) i zero b a h l = absurd (omega (arith, h))
two_put (x ∷ xs) zero (suc j) b a h l = refl
two_put (x ∷ xs) (suc i) (suc j) b a h l =
    ap (λ (t : List CodeRange). x ∷ t) (two_put xs i j b a (omega (arith, h)) (omega (arith, l)))

pub two_in_place : (xs ys zs : List CodeRange) (i j : ℕ) (b a : CodeRange) → i < j → j ≤ length xs
    → ys ≡ take i xs ++ b ∷ drop i xs → zs ≡ take (i + 1) ys ++ a ∷ drop (j + 1) ys → zs ≡ take i xs ++ b ∷ a
    ∷ drop j xs
two_in_place xs ys zs i j b a h l first second =
    let one : i + 1 ≡ suc i = omega arith in
    let over : j + 1 ≡ suc j = omega arith in
    second ∙ (λ k. take (one k) (first k) ++ a ∷ drop (over k) (first k)) ∙ two_put xs i j b a h l
