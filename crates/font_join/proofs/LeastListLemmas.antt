-- The join of a list is the least file of which all its files are cuts, and a refusal says that there is none.
use Rattle.std.proofs.Common.{◌≡◌, ℕ, zero, suc, ◌<◌, ◌≤◌, inl, inr, List, length, refl, subst, sym, arith, Option}
use Rattle.std.proofs.lemmas.Bool.{cases_lt}
use Rattle.font_file.specs.declared.font_error.FontError.{FontError}
use Rattle.font_theory.specs.Content.{Content, Font as FontRead}
use Rattle.font_theory.specs.Cut.{Format, Under}
use Rattle.font_theory.specs.Kinds.{IsKind}
use Rattle.font_theory.specs.Tree.{file_at}
use Rattle.font_theory.proofs.CutLemmas.{Under-through}
use Rattle.font_join.specs.JoinList.{AllRefusalIsRight, AreUnder, IsAllJoined, IsAllRefusal, IsLeastOf, IsRefusedAt}
use Rattle.font_join.specs.JoinList.{Stands, StepRefusalIsRight}
use Rattle.font_join.specs.declared.join_error.JoinAllError.{JoinAllError}
use Rattle.font_join.specs.declared.join_error.JoinAllError.TheVariants.{At, NothingToJoin}
use Rattle.font_join.specs.declared.join_error.JoinError.{JoinError}
use Rattle.font_join.specs.declared.join_error.JoinError.TheVariants.{DifferentGlyph, DifferentMapping, DifferentTable}
use Rattle.font_join.specs.declared.join_error.JoinError.TheVariants.{Font, NoMemory, NotACut, TableTooLong, TooLarge}
use Rattle.font_join.proofs.JoinLemmas.{least_upper, true_refusal}

module _ {R : Format} {fault : List ℕ → Option FontError} {font : List ℕ → FontRead} {spelled : Content
    → Content} (kind : IsKind R fault font spelled) (files : List (List ℕ)) where
  -- each file up to one is a cut of what stands after the join with that
  above_at : (k : ℕ) (v : List ℕ) → Stands R files (suc k) v → (i : ℕ) → i ≤ k → Under R (file_at files i) v
  above_at zero v s i low =
      let e : 0 ≡ i = omega (arith, low) in
      subst (λ (n : ℕ). Under R (file_at files n) v) e (least_upper kind s.0 (file_at files 0) v s.2).second
  above_at (suc k) v s i low =
      let upper = least_upper kind s.0 (file_at files (suc k)) v s.2 in
      elim (cases_lt i (suc k)) [
        | inl below ↦
            Under-through R kind.law (file_at files i) s.0 v (above_at k s.0 s.1 i (omega (arith, below))) upper.first
        | inr past ↦
            let e : suc k ≡ i = omega (arith, low, past) in
            subst (λ (n : ℕ). Under R (file_at files n) v) e upper.second
      ]

  -- and that is a cut of each file of which they are
  least_at : (k : ℕ) (v : List ℕ) → Stands R files (suc k) v → (F : List ℕ)
      → ((i : ℕ) → i ≤ k → Under R (file_at files i) F) → Under R v F
  least_at zero v s F each =
      let u = each 0 (omega arith) in
      (least_upper kind s.0 (file_at files 0) v s.2).least F (subst (λ (x : List ℕ). Under R x F) (sym s.1) u) u
  least_at (suc k) v s F each =
      (least_upper kind s.0 (file_at files (suc k)) v s.2).least F
      (least_at k s.0 s.1 F (λ i low. each i (omega (arith, low)))) (each (suc k) (omega arith))

  pub least_of_all : (z : List ℕ) → IsAllJoined R files z → IsLeastOf R files z
  least_of_all z all = go (length files) refl all.stands
    where
      go : (n : ℕ) → n ≡ length files → Stands R files n z → IsLeastOf R files z
      go zero e s = let h = all.some in absurd (omega arith)
      go (suc k) e s = record {
        cut_form = (least_upper kind s.0 (file_at files k) z s.2).cut_form;
        above = λ i low. above_at k z s i (omega (arith, low, e));
        least = λ F each. least_at k z s F (λ i low. each i (omega (arith, low, e)));
      }

  -- so is what stands before a step
  before_under : (k : ℕ) (w : List ℕ) → k < length files → Stands R files k w → (F : List ℕ) → AreUnder R files F
      → Under R w F
  before_under zero w low s F each = subst (λ (x : List ℕ). Under R x F) (sym s) (each 0 low)
  before_under (suc k) w low s F each = least_at k w s F (λ i small. each i (omega (arith, small, low)))

  step_refusal : (k : ℕ) (error : JoinError) → IsRefusedAt R files k error → StepRefusalIsRight R files k error
  step_refusal k (Font which fault) r = λ other F each.
      true_refusal kind r.before (file_at files k) (Font which fault) r.refused other F
      (before_under k r.before r.below r.stands F each) (each k r.below)
  step_refusal k (NotACut which) r = λ F each.
      true_refusal kind r.before (file_at files k) (NotACut which) r.refused F
      (before_under k r.before r.below r.stands F each) (each k r.below)
  step_refusal k (DifferentTable tag) r = λ F each.
      true_refusal kind r.before (file_at files k) (DifferentTable tag) r.refused F
      (before_under k r.before r.below r.stands F each) (each k r.below)
  step_refusal k (DifferentMapping code) r = λ F each.
      true_refusal kind r.before (file_at files k) (DifferentMapping code) r.refused F
      (before_under k r.before r.below r.stands F each) (each k r.below)
  step_refusal k (DifferentGlyph g) r = λ F each.
      true_refusal kind r.before (file_at files k) (DifferentGlyph g) r.refused F
      (before_under k r.before r.below r.stands F each) (each k r.below)
  step_refusal k (TableTooLong tag) r = λ F each.
      true_refusal kind r.before (file_at files k) (TableTooLong tag) r.refused F
      (before_under k r.before r.below r.stands F each) (each k r.below)
  step_refusal k (TooLarge size) r =
      (r.before, r.stands, true_refusal kind r.before (file_at files k) (TooLarge size) r.refused)
  step_refusal k NoMemory r = tt

  -- a refusal is a true one
  pub true_refusal_of_all : (error : JoinAllError) → IsAllRefusal R files error → AllRefusalIsRight R files error
  true_refusal_of_all NothingToJoin r = r
  true_refusal_of_all (At k error) r = step_refusal k error r
