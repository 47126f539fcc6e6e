-- The worklist of a closure.
use Rattle.std.proofs.Common.{◌≡◌, ℕ, ◌+◌, ◌<◌, ◌≤◌, ◌⊎◌, ◌↔◌, Bool, true, not, List, [], ◌∷◌, ◌++◌, length, sym, ap}
use Rattle.std.proofs.Common.{subst}
use Rattle.std.proofs.Common.{◌∙◌, arith, inl, inr}
use Rattle.std.specs.List.{All, AllByRecursion, Contains, count_by}
use Rattle.std.proofs.lemmas.List.{length_push}
use Rattle.std.proofs.lemmas.List.Elements.{All-from_recursion, recursion_from_All, All-pop, All-contains}
use Rattle.std.proofs.lemmas.List.Elements.{Contains-push_cases}
use Rattle.std.proofs.Common.{Some}
use Rattle.font_glyph.specs.declared.component.Component.{Component}
use Rattle.font_glyph.specs.Marks.{has}
use Rattle.font_glyph.specs.Record.{ComponentList, glyphs_of}
use Rattle.font_glyph.specs.Closure.{marks_after, work_after}
use Rattle.font_glyph.specs.Reach.{Reach, IsComponentOf}
use Rattle.font_glyph.specs.Reach.Reach.{seed, part}
use Rattle.font_glyph.proofs.RecordLemmas.{ComponentList-only}
use Rattle.font_glyph.proofs.ReachLemmas.{Reach-within}
use Rattle.font_glyph.proofs.VisitLemmas.{length-marks_after, marks_stay, marks_each, marks_only, work_stays}
use Rattle.font_glyph.proofs.VisitLemmas.{new_in_work, work_small, work_marked, work_count}

-- the marks and the work on the way, where o has the records, n is their number and s the seeds
pub record Closing (o : ℕ → List ℕ) (n : ℕ) (s m : List Bool) (w : List ℕ) : Type 0 where
  pub room : count_by not m + length w ≤ n
  pub length : length m ≡ n
  pub seeds : (h : ℕ) → has s h ≡ true → has m h ≡ true
  pub reached : (h : ℕ) → has m h ≡ true → Reach o (has s) h
  pub done : (h i : ℕ) → has m h ≡ true → IsComponentOf (o h) i → Contains w h ⊎ (has m i ≡ true)
  pub small : All (λ h. h < n) w
  pub marked : All (λ h. has m h ≡ true) w

glyphs_by_recursion : (n : ℕ) (l : List Component) → AllByRecursion (λ c. c.glyph < n) l
    → AllByRecursion (λ g. g < n) (glyphs_of l)
glyphs_by_recursion n [] a = a
glyphs_by_recursion n (c ∷ l) a = (a.0, glyphs_by_recursion n l a.1)

pub glyphs_small : (n : ℕ) (l : List Component) → All (λ c. c.glyph < n) l → AllByRecursion (λ g. g < n) (glyphs_of l)
glyphs_small n l a = glyphs_by_recursion n l (recursion_from_All (λ c. c.glyph < n) l a)

pub closing_init : (o : ℕ → List ℕ) (n : ℕ) (s : List Bool) (w : List ℕ) → length s ≡ n
    → ((h : ℕ) → has s h ≡ true → Contains w h) → All (λ h. h < n) w → All (λ h. has s h ≡ true) w
    → length w + count_by not s ≡ n → Closing o n s s w
closing_init o n s w e f a b all =
    record {
      length = e;
      seeds = λ h x. x;
      reached = λ h x. seed x;
      done = λ h i x c. inl (f h x);
      small = a;
      marked = b;
      room = omega arith;
    }

pub closing_end : (o : ℕ → List ℕ) (n : ℕ) (s m : List Bool) (w : List ℕ) → Closing o n s m w → w ≡ [] → (g : ℕ)
    → has m g ≡ true ↔ Reach o (has s) g
closing_end o n s m w k e g = (
  k.reached g,
  Reach-within o (has s) (has m) (record {
    has_seeds = k.seeds;
    has_parts = λ h i x c. elim (k.done h i x c) [
      | inl y ↦
          absurd (omega (arith, y.1, ap length e))
      | inr y ↦ y
    ];
  }) g,
)

-- one visit
closing_step : (o : ℕ → List ℕ) (n : ℕ) (s m : List Bool) (w v : List ℕ) (g : ℕ) (l : List Component)
    → Closing o n s m w → w ≡ v ++ g ∷ [] → ComponentList (o g) l → All (λ c. c.glyph < n) l
    → Closing o n s (marks_after (glyphs_of l) m) (work_after (glyphs_of l) m v)
closing_step o n s m w v g l k e c a =
    let gs : List ℕ = glyphs_of l in
    let mine : has m g ≡ true = (All-pop (λ h. has m h ≡ true) w v (Some g) e k.marked).1 in
    record {
      length = length-marks_after gs m ∙ k.length;
      seeds = λ h x. marks_stay gs m h (k.seeds h x);
      reached = λ h x. elim (marks_only gs m h x) [
        | inl y ↦ k.reached h y
        | inr y ↦ part (k.reached g mine) (record { list = l; is = c; among = y })
      ];
      done = λ h i x d. elim (new_in_work gs m v h x) [
        | inl y ↦ elim (k.done h i y d) [
          | inl z ↦ elim (Contains-push_cases v g h (subst (λ (t : List ℕ). Contains t h) e z)) [
            | inl p ↦ inl (work_stays gs m v h p)
            | inr p ↦
                let q : IsComponentOf (o g) i = subst (λ (t : ℕ). IsComponentOf (o t) i) (sym p) d in
                let r : Contains gs i =
                subst (λ (t : List Component). Contains (glyphs_of t) i) (ComponentList-only (o g) q.list l q.is c)
                q.among in
                inr (marks_each gs m i r
                (omega (
                  arith,
                  All-contains (λ t. t < n) gs i
                      (All-from_recursion (λ t. t < n) gs (glyphs_small n l a)) r,
                  k.length,
                )))
          ]
          | inr z ↦ inr (marks_stay gs m i z)
        ]
        | inr y ↦ inl y
      ];
      small = work_small n gs m v (glyphs_small n l a) (All-pop (λ h. h < n) w v (Some g) e k.small).0;
      marked = work_marked n gs m v k.length (glyphs_small n l a) (All-pop (λ h. has m h ≡ true) w v (Some g) e
          k.marked).0;
      room = omega (
        arith,
        work_count gs m v n (sym k.length) (glyphs_small n l a),
        ap length e,
        length_push v g,
        k.room,
      );
    }

pub closing_visit : (o : ℕ → List ℕ) (n : ℕ) (s m t : List Bool) (w v u : List ℕ) (b : List ℕ) (g : ℕ)
    (l : List Component) → Closing o n s m w → w ≡ v ++ g ∷ [] → b ≡ o g → ComponentList b l → All (λ c. c.glyph < n) l
    → t ≡ marks_after (glyphs_of l) m → u ≡ work_after (glyphs_of l) m v → Closing o n s t u
closing_visit o n s m t w v u b g l k e same c a marks work =
    rw (marks, work) (closing_step o n s m w v g l k e (subst (λ (x : List ℕ). ComponentList x l) same c) a)

-- a visit lowers the number of glyphs that have no mark or wait
pub closing_smaller : (n : ℕ) (m t : List Bool) (w v u : List ℕ) (g : ℕ) (l : List Component) → length m ≡ n
    → w ≡ v ++ g ∷ [] → All (λ c. c.glyph < n) l
    → t ≡ marks_after (glyphs_of l) m → u ≡ work_after (glyphs_of l) m v → count_by not t + length u < count_by not m
    + length w
closing_smaller n m t w v u g l long popped low marks work =
    let kept = work_count (glyphs_of l) m v n (sym long) (glyphs_small n l low) in
    let same_marks : count_by not t ≡ count_by not (marks_after (glyphs_of l) m) = ap (count_by not) marks in
    let same_work : length u ≡ length (work_after (glyphs_of l) m v) = ap length work in
    let before : length w ≡ length (v ++ g ∷ []) = ap length popped in
    let one = length_push v g in
    omega arith
