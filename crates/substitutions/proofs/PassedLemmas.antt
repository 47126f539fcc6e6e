-- From the walk through all of a table to its single parts.
use Rattle.std.proofs.Common.{◌≡◌, ℕ, zero, suc, ◌+◌, ◌<◌, true, List, [], ◌∷◌, ◌++◌, map, refl, sym}
use Rattle.std.proofs.Common.{ap, subst, ◌∙◌, arith, Option, Some, None}
use Rattle.std.specs.List.{Contains, flat_map, range_with_len}
use Rattle.std.proofs.lemmas.Bool.{both_ways, or_parts}
use Rattle.std.proofs.lemmas.List.Concat.{flat_map_single}
use Rattle.std.proofs.lemmas.List.Elements.{Contains-append_left, Contains-append_right}
use Rattle.std.proofs.lemmas.List.Folds.{list_any-append}
use Rattle.font_layout.specs.Layout.{is_fault, links_among, links_in}
use Rattle.font_layout.specs.Steps.{steps_within}
use Rattle.font_layout.specs.declared.step.Link.{Link}
use Rattle.font_layout.specs.declared.step.Step.{Step}
use Rattle.font_layout.specs.declared.step.Step.TheVariants.{Part, Leads, Fault}
use Rattle.substitutions.specs.Inside.{IsPassed}

links_among-append : (xs ys : List Step) → links_among (xs ++ ys) ≡ links_among xs ++ links_among ys
links_among-append [] ys = refl
links_among-append (Part n ∷ xs) ys = links_among-append xs ys
links_among-append (Leads link ∷ xs) ys = ap (λ (l : List Link). link ∷ l) (links_among-append xs ys)
links_among-append (Fault ∷ xs) ys = links_among-append xs ys

module _ (table : List ℕ) where
  passed_front : (xs ys : List Step) → IsPassed table (xs ++ ys) → IsPassed table xs
  passed_front xs ys passed =
      record {
        sound = (or_parts _ _ (sym (list_any-append is_fault xs ys) ∙ passed.sound)).0;
        linked = λ link has. passed.linked link (subst (λ (l : List Link). Contains l link)
            (sym (links_among-append xs ys)) (Contains-append_left (links_among xs) (links_among ys) link has));
      }

  passed_back : (xs ys : List Step) → IsPassed table (xs ++ ys) → IsPassed table ys
  passed_back xs ys passed =
      record {
        sound = (or_parts _ _ (sym (list_any-append is_fault xs ys) ∙ passed.sound)).1;
        linked = λ link has. passed.linked link (subst (λ (l : List Link). Contains l link)
            (sym (links_among-append xs ys)) (Contains-append_right (links_among xs) (links_among ys) link has));
      }

  -- what is gone into, and what a number below the count has
  pub passed_part : (n : ℕ) (steps : List Step) → IsPassed table (Part n ∷ steps) → IsPassed table steps
  passed_part n steps passed = passed_back (Part n ∷ []) steps passed

  pub passed_each : (f : ℕ → List Step) (from count k at : ℕ) → IsPassed table (flat_map f (range_with_len from count))
      → k < count → from + k ≡ at → IsPassed table (f at)
  passed_each f from zero k at passed low is = absurd (omega arith)
  passed_each f from (suc count) zero at passed low is =
      let first = passed_front (f from) (flat_map f (range_with_len (from + 1) count)) passed in
      let same : from ≡ at = omega (arith, is) in
      subst (λ (a : ℕ). IsPassed table (f a)) same first
  passed_each f from (suc count) (suc k) at passed low is =
      passed_each f (from + 1) count k at (passed_back (f from) (flat_map f (range_with_len (from + 1) count)) passed)
      (omega arith) (omega (arith, is))

  pub passed_item : (f : ℕ → Step) (count k : ℕ) → IsPassed table (map f (range_with_len 0 count)) → k < count
      → IsPassed table (f k ∷ [])
  passed_item f count k passed low =
      passed_each (λ x. f x ∷ []) 0 count k k
      (subst (IsPassed table) (sym (flat_map_single f (range_with_len 0 count))) passed) low (omega arith)

  pub passed_within : {X : Type 0} (there : Option X) (offsets : X → ℕ) (steps : X → List Step)
      → IsPassed table (steps_within there offsets steps) → (x : X) × (there ≡ Some x) × IsPassed table (steps x)
  passed_within None offsets steps passed = absurd (both_ways true passed.sound refl)
  passed_within (Some x) offsets steps passed = (x, refl, passed_part (offsets x) (steps x) passed)

  -- a link, and no fault
  pub passed_link : (link : Link) → IsPassed table (Leads link ∷ []) → Contains (links_in table) link
  passed_link link passed = passed.linked link (0, omega arith, refl)

  pub passed_fault : IsPassed table (Fault ∷ []) → ⊥
  passed_fault passed = both_ways true passed.sound refl
