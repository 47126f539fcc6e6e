-- Runs stay in each set that has the links of its glyphs.
use Rattle.std.proofs.Common.{◌≡◌, ℕ, Bool, true, false, List, ◌∷◌, ◌++◌, get_or, length, subst, ◌+◌, arith}
use Rattle.std.specs.List.{All}
use Rattle.std.proofs.lemmas.List.{get_or-append-add, get_or_append_left, length-append}
use Rattle.std.proofs.lemmas.List.Elements.{All-append, All-cons, All-contains, All-head, All-tail}
use Rattle.font_layout.specs.Layout.{is_bad_layout}
use Rattle.substitutions.specs.Laws.{IsLink}
use Rattle.substitutions.specs.Shaping.{Becomes, BecomesInSteps, IsWithout}
use Rattle.substitutions.specs.Shaping.Becomes.{replaced, ligated}
use Rattle.substitutions.specs.Shaping.BecomesInSteps.{done, step, moved}
use Rattle.substitutions.specs.Shaping.IsWithout.{none, taken, skipped}
use Rattle.substitutions.specs.Substitution.{FormsLigature, Replaces}
use Rattle.substitutions.proofs.ReplaceLemmas.{formed_linked, replaced_linked}

-- the parts of a list
front_within : (P : ℕ → Type 0) (xs ys : List ℕ) → All P (xs ++ ys) → All P xs
front_within P xs ys all k d low =
    subst P (get_or_append_left xs ys d k low) (all k d (omega (arith, length-append xs ys)))

back_within : (P : ℕ → Type 0) (xs ys : List ℕ) → All P (xs ++ ys) → All P ys
back_within P xs ys all k d low =
    subst P (get_or-append-add xs ys k d) (all (length xs + k) d (omega (arith, length-append xs ys)))

-- what is left of a list is of it
left_within : (P : ℕ → Type 0) {gone list left : List ℕ} → IsWithout gone list left → All P list → All P left
left_within P none all = all
left_within P (taken {g = g} {list = list} rest) all = left_within P rest (All-tail P g list all)
left_within P (skipped {g = g} {list = list} {left = left} rest) all =
    All-cons P g left (All-head P g list all) (left_within P rest (All-tail P g list all))

-- where a relation leads from each glyph to what may come in its place
pub record AreSteps (table : List ℕ) (to : ℕ → ℕ → Type 0) : Type 0 where
  pub replaces : (g : ℕ) (outputs : List ℕ) → Replaces table g outputs → All (to g) outputs
  pub forms : (g : ℕ) (others : List ℕ) (formed : ℕ) → FormsLigature table g others formed → to g formed

pub accepted_steps : (table : List ℕ) → is_bad_layout table ≡ false → AreSteps table (IsLink table)
accepted_steps table accepted =
    record {
      replaces = λ g outputs r. replaced_linked table accepted r;
      forms = λ g others formed l. formed_linked table accepted l;
    }

module _ (table : List ℕ) (to : ℕ → ℕ → Type 0) (steps : AreSteps table to) (has : ℕ → Bool)
    (closed : (g h : ℕ) → has g ≡ true → to g h → has h ≡ true) where
  abbrev In : ℕ → Type 0
  In g = has g ≡ true

  step_within : {list next : List ℕ} → Becomes table list next → All In list → All In next
  step_within (replaced before {glyph = g} {outputs = outputs} after r) all =
      let rest = back_within In before (g ∷ after) all in
      let here = All-head In g after rest in
      let led = steps.replaces g outputs r in
      All-append In (before ++ outputs) after
      (All-append In before outputs (front_within In before (g ∷ after) all)
      (λ k d low. closed g (get_or outputs k d) here (led k d low)))
      (All-tail In g after rest)
  step_within (ligated before {glyph = g} {formed = h} {others = others} {after = after} {left = left} l w) all =
      let rest = back_within In before (g ∷ after) all in
      All-append In before (h ∷ left) (front_within In before (g ∷ after) all)
      (All-cons In h left (closed g h (All-head In g after rest) (steps.forms g others h l))
      (left_within In w (All-tail In g after rest)))

  pub run_within : {list last : List ℕ} → BecomesInSteps table list last → All In list → All In last
  run_within done all = all
  run_within (step s rest) all = run_within rest (step_within s all)
  run_within (moved {list = list} {next = next} those rest) all =
      run_within rest (λ k d low. All-contains In list (get_or next k d) all (those k d low))
