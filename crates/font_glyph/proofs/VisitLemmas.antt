-- What a visit of some glyphs leaves marked, and in the work.
use Rattle.std.proofs.Common.{◌≡◌, ℕ, zero, suc, ◌+◌, ◌<◌, ◌⊎◌, Bool, true, false, not, cond, List, [], ◌∷◌, ◌++◌}
use Rattle.std.proofs.Common.{get_or, length, set, take, sym, ap, subst, ◌∙◌, refl, arith, inl, inr}
use Rattle.std.specs.List.{All, AllByRecursion, Contains, count_by}
use Rattle.std.proofs.lemmas.Bool.{cases_eq, cases_lt}
use Rattle.std.proofs.lemmas.List.{length-set, get_or-set_same, get_or-set_other, get_or_past, get_or-take, set-get_or}
use Rattle.std.proofs.lemmas.List.{length_push}
use Rattle.std.proofs.lemmas.List.Elements.{All-push, All-weaker, Contains-append_left, Contains-push}
use Rattle.std.proofs.lemmas.List.Sums.{sum_by-set, count_by_more_no, count_by_more_yes}
use Rattle.font_glyph.specs.Marks.{has}
use Rattle.font_glyph.specs.Closure.{marks_after, work_after}

pub has_within : (m : List Bool) (g : ℕ) → has m g ≡ true → g < length m
unfolding has
has_within m g e = elim (cases_lt g (length m)) [
  | inl l ↦ l
  | inr l ↦
      let p : has m g ≡ false = get_or_past m g false l in cc
]

pub has-set_same : (m : List Bool) (g : ℕ) → g < length m → has (set m g true) g ≡ true
unfolding has
has-set_same m g l = get_or-set_same m g true false l

pub has-set_other : (m : List Bool) (g h : ℕ) → (h ≡ g → ⊥) → has (set m g true) h ≡ has m h
unfolding has
has-set_other m g h n = get_or-set_other m g h true false n

-- the marks below a count alone
pub has-take : (m t : List Bool) (n : ℕ) → t ≡ take n m → (g : ℕ) → g < n → has t g ≡ has m g
unfolding has
has-take m t n is g low = ap (λ (l : List Bool). get_or l g false) is ∙ get_or-take n m g false low

-- a mark stays when another glyph is marked
pub has-set : (m : List Bool) (g h : ℕ) → has m h ≡ true → has (set m g true) h ≡ true
has-set m g h e =
    elim (cases_eq h g) [
      | inl q ↦ subst (λ (x : ℕ). has (set m g true) x ≡ true) (sym q)
          (has-set_same m g (subst (λ (x : ℕ). x < length m) q (has_within m h e)))
      | inr n ↦ has-set_other m g h n ∙ e
    ]

-- a glyph that is marked already
pub set-marked : (m : List Bool) (g : ℕ) → has m g ≡ true → set m g true ≡ m
unfolding has
set-marked m g e = ap (set m g) (sym e) ∙ set-get_or m g false

pub length-marks_after : (gs : List ℕ) (m : List Bool) → length (marks_after gs m) ≡ length m
length-marks_after [] m = refl
length-marks_after (g ∷ gs) m = length-marks_after gs (set m g true) ∙ length-set m g true

pub marks_stay : (gs : List ℕ) (m : List Bool) (h : ℕ) → has m h ≡ true → has (marks_after gs m) h ≡ true
marks_stay [] m h e = e
marks_stay (g ∷ gs) m h e = marks_stay gs (set m g true) h (has-set m g h e)

pub marks_each : (gs : List ℕ) (m : List Bool) (h : ℕ) → Contains gs h → h < length m → has (marks_after gs m) h ≡ true
marks_each [] m h (k, l, e) s = absurd (omega (arith, l))
marks_each (g ∷ gs) m h (zero, l, e) s =
    marks_stay gs (set m g true) h (subst (λ (x : ℕ). has (set m x true) h ≡ true) (sym e) (has-set_same m h s))
marks_each (g ∷ gs) m h (suc k, l, e) s =
    marks_each gs (set m g true) h (k, omega (arith, l), e) (omega (arith, length-set m g true))

pub marks_only : (gs : List ℕ) (m : List Bool) (h : ℕ) → has (marks_after gs m) h ≡ true → (has m h ≡ true)
    ⊎ Contains gs h
marks_only [] m h e = inl e
marks_only (g ∷ gs) m h e =
    elim (marks_only gs (set m g true) h e) [
      | inl x ↦ elim (cases_eq h g) [
        | inl q ↦ inr (0, omega arith, sym q)
        | inr n ↦
            inl (sym (has-set_other m g h n) ∙ x)
      ]
      | inr k ↦ inr (suc k.0, omega (arith, k.1), k.2)
    ]

pub work_stays : (gs : List ℕ) (m : List Bool) (w : List ℕ) (h : ℕ) → Contains w h → Contains (work_after gs m w) h
work_stays [] m w h c = c
work_stays (g ∷ gs) m w h c =
    elim (has m g) as (λ (b : Bool). Contains (cond b (work_after gs m w) (work_after gs (set m g true) (w ++ g ∷ [])))
    h) [
      | true ↦ work_stays gs m w h c
      | false ↦ work_stays gs (set m g true) (w ++ g ∷ []) h (Contains-append_left w (g ∷ []) h c)
    ]

-- what is newly marked is in the work
pub new_in_work : (gs : List ℕ) (m : List Bool) (w : List ℕ) (h : ℕ) → has (marks_after gs m) h ≡ true
    → (has m h ≡ true) ⊎ Contains (work_after gs m w) h
new_in_work [] m w h e = inl e
new_in_work (g ∷ gs) m w h e =
    let P : Bool → Type 0 = λ b. (has m h ≡ true)
    ⊎ Contains (cond b (work_after gs m w) (work_after gs (set m g true) (w ++ g ∷ []))) h in
    let at : (b : Bool) → has m g ≡ b → P b =
    elim [
      | true ↦ λ q. new_in_work gs m w h (subst (λ (x : List Bool). has (marks_after gs x) h ≡ true) (set-marked m g q)
          e)
      | false ↦ λ q.
          elim (new_in_work gs (set m g true) (w ++ g ∷ []) h e) [
            | inl x ↦ elim (cases_eq h g) [
              | inl z ↦ inr (work_stays gs (set m g true) (w ++ g ∷ []) h (subst (λ (x : ℕ). Contains (w ++ x ∷ []) h) z
                  (Contains-push w h)))
              | inr n ↦ inl (sym (has-set_other m g h n) ∙ x)
            ]
            | inr k ↦ inr k
          ]
    ] in
    at (has m g) refl

pub work_small : (n : ℕ) (gs : List ℕ) (m : List Bool) (w : List ℕ) → AllByRecursion (λ g. g < n) gs
    → All (λ g. g < n) w → All (λ g. g < n) (work_after gs m w)
work_small n [] m w a b = b
work_small n (g ∷ gs) m w a b =
    elim (has m g) as
    (λ (t : Bool). All (λ g. g < n) (cond t (work_after gs m w) (work_after gs (set m g true) (w ++ g ∷ [])))) [
      | true ↦ work_small n gs m w a.1 b
      | false ↦ work_small n gs (set m g true) (w ++ g ∷ []) a.1 (All-push (λ g. g < n) w g b a.0)
    ]

-- a glyph that gets a mark is one fewer without
pub unmarked_less : (m : List Bool) (g : ℕ) → has m g ≡ false → g < length m
    → count_by not (set m g true) + 1 ≡ count_by not m
unfolding has
unmarked_less m g q low =
    let s : count_by not (set m g true) + cond (not (has m g)) 1 0 ≡ count_by not m + 0 =
    sum_by-set (λ x. cond (not x) 1 0) m g true false low in
    let r : count_by not (set m g true) + 1 ≡ count_by not m + 0 =
    subst (λ (b : Bool). count_by not (set m g true) + cond (not b) 1 0 ≡ count_by not m + 0) q s in
    omega arith

-- each number without a mark goes into the work once
pub work_count : (gs : List ℕ) (m : List Bool) (w : List ℕ) (n : ℕ) → n ≡ length m → AllByRecursion (λ g. g < n) gs
    → count_by not (marks_after gs m) + length (work_after gs m w) ≡ count_by not m + length w
unfolding has
work_count [] m w n z a = refl
work_count (g ∷ gs) m w n z a =
    let P : Bool → Type 0 = λ b. count_by not (marks_after gs (set m g true))
    + length (cond b (work_after gs m w) (work_after gs (set m g true) (w ++ g ∷ []))) ≡ count_by not m
    + length w in
    let at : (b : Bool) → has m g ≡ b → P b =
    elim [
      | true ↦ λ q. subst (λ (x : List Bool). count_by not (marks_after gs x) + length (work_after gs m w)
          ≡ count_by not m + length w) (sym (set-marked m g q)) (work_count gs m w n z a.1)
      | false ↦ λ q.
          omega (
            arith,
            work_count gs (set m g true) (w ++ g ∷ []) n (z ∙ sym (length-set m g true)) a.1,
            length_push w g,
            unmarked_less m g q (omega (arith, a.0)),
          )
    ] in
    at (has m g) refl

-- all in the work is marked
pub work_marked : (n : ℕ) (gs : List ℕ) (m : List Bool) (w : List ℕ) → length m ≡ n → AllByRecursion (λ g. g < n) gs
    → All (λ h. has m h ≡ true) w → All (λ h. has (marks_after gs m) h ≡ true) (work_after gs m w)
work_marked n [] m w e a b = b
work_marked n (g ∷ gs) m w e a b =
    let s : List Bool = set m g true in
    let f : length s ≡ n = length-set m g true ∙ e in
    let c : All (λ h. has s h ≡ true) w = All-weaker (λ h. has m h ≡ true) (λ h. has s h ≡ true) (has-set m g) w b in
    let P : Bool → Type 0 =
    λ t. All (λ h. has (marks_after gs s) h ≡ true) (cond t (work_after gs m w) (work_after gs s (w ++ g ∷ []))) in
    let at : (t : Bool) → has m g ≡ t → P t =
    elim [
      | true ↦ λ q. subst (λ (x : List Bool). All (λ h. has (marks_after gs x) h ≡ true) (work_after gs m w))
          (sym (set-marked m g q)) (work_marked n gs m w e a.1 b)
      | false ↦ λ q. work_marked n gs s (w ++ g ∷ []) f a.1 (All-push (λ h. has s h ≡ true) w g c
          (has-set_same m g (omega (arith, a.0))))
    ] in
    at (has m g) refl

-- the marked numbers below g
pub record Listed (n : ℕ) (m : List Bool) (g : ℕ) (w : List ℕ) : Type 0 where
  pub all : (h : ℕ) → h < g → has m h ≡ true → Contains w h
  pub only : All (λ h. (h < n) × (has m h ≡ true)) w
  pub length : length w + count_by not (take g m) ≡ g

pub listed_yes : (n : ℕ) (m : List Bool) (g : ℕ) (w : List ℕ) → Listed n m g w → has m g ≡ true → g < n → g < length m
    → Listed n m (g + 1) (w ++ g ∷ [])
unfolding has
listed_yes n m g w l e s t =
    record {
      all = λ h b x. elim (cases_eq h g) [
        | inl q ↦ subst (λ (z : ℕ). Contains (w ++ g ∷ []) z) (sym q) (Contains-push w g)
        | inr k ↦ Contains-append_left w (g ∷ []) h (l.all h (omega arith) x)
      ];
      only = All-push (λ h. (h < n) × (has m h ≡ true)) w g l.only (s, e);
      length = omega (arith, l.length, length_push w g, count_by_more_no not m g false t (ap not e));
    }

pub listed_no : (n : ℕ) (m : List Bool) (g : ℕ) (w : List ℕ) → Listed n m g w → has m g ≡ false → g < length m
    → Listed n m (g + 1) w
unfolding has
listed_no n m g w l e t =
    record {
      all = λ h b x. elim (cases_eq h g) [
        | inl q ↦ let z : has m g ≡ true = subst (λ (z : ℕ). has m z ≡ true) q x in cc
        | inr k ↦ l.all h (omega arith) x
      ];
      only = l.only;
      length = omega (arith, l.length, count_by_more_yes not m g false t (ap not e));
    }
