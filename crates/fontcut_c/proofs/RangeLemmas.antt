-- Ranges want the same codes in whatever order they come.
use Rattle.std.proofs.Common.{◌≡◌, ℕ, Bool, true, false, ◌&&◌, ◌||◌, List, [], ◌∷◌, ◌++◌, ap, refl, sym, ◌∙◌}
use Rattle.std.proofs.Common.{le_refl}
use Rattle.std.specs.List.{list_any}
use Rattle.std.proofs.Math.Path.{fun_ext}
use Rattle.std.specs.List.Sorted.{IsPermutation}
use Rattle.std.proofs.lemmas.List.Sorted.{list_any-IsPermutation}
use Rattle.codes.proofs.AddingLemmas.{le_yes}
use Rattle.codes.specs.Wanted.{codes_between, either, no_codes}
use Rattle.codes.specs.declared.code_range.CodeRange.{CodeRange}
use Rattle.fontcut_c.specs.Requests.{codes_of_ranges, with_ranges}

or_turned : (a r b : Bool) → (a || (r || b)) ≡ ((r || a) || b)
or_turned true true b = refl
or_turned true false b = refl
or_turned false true b = refl
or_turned false false b = refl

-- the codes of ranges are those of a set, and those that one of the ranges has
with_ranges-any : (base : ℕ → Bool) (ranges : List CodeRange) (c : ℕ) → with_ranges base ranges c
    ≡ (list_any (λ range. codes_between range.first range.last c) ranges || base c)
with_ranges-any base [] c = refl
with_ranges-any base (range ∷ ranges) c =
    with_ranges-any (either (codes_between range.first range.last) base) ranges c
    ∙ or_turned (list_any (λ other. codes_between other.first other.last c) ranges)
    (codes_between range.first range.last c) (base c)

pub wanted_by_sorted : (xs ys : List CodeRange) → IsPermutation xs ys → codes_of_ranges ys ≡ codes_of_ranges xs
wanted_by_sorted xs ys same =
    fun_ext (λ c. with_ranges-any no_codes ys c
    ∙ ap (λ b. b || no_codes c)
    (sym (list_any-IsPermutation (λ range. codes_between range.first range.last c) xs ys same))
    ∙ sym (with_ranges-any no_codes xs c))

-- a range that is added at the end takes no code away, and adds its own
with_ranges-more : (base : ℕ → Bool) (ranges : List CodeRange) (range : CodeRange) (c : ℕ)
    → with_ranges base (ranges ++ range ∷ []) c
    ≡ (codes_between range.first range.last c || with_ranges base ranges c)
with_ranges-more base [] range c = refl
with_ranges-more base (other ∷ ranges) range c =
    with_ranges-more (either (codes_between other.first other.last) base) ranges range c

or_true : (a : Bool) → (a || true) ≡ true
or_true true = refl
or_true false = refl

between_itself : (c : ℕ) → codes_between c c c ≡ true
between_itself c = ap (λ b. b && b) (le_yes c c (le_refl c))

pub wanted_by_kept : (ranges : List CodeRange) (range : CodeRange) (c : ℕ) → codes_of_ranges ranges c ≡ true
    → codes_of_ranges (ranges ++ range ∷ []) c ≡ true
wanted_by_kept ranges range c is =
    with_ranges-more no_codes ranges range c
    ∙ ap (λ b. codes_between range.first range.last c || b) is
    ∙ or_true (codes_between range.first range.last c)

pub wanted_by_added : (ranges : List CodeRange) (c : ℕ)
    → codes_of_ranges (ranges ++ (record { first = c; last = c }) ∷ []) c ≡ true
wanted_by_added ranges c =
    with_ranges-more no_codes ranges (record { first = c; last = c }) c
    ∙ ap (λ b. b || codes_of_ranges ranges c) (between_itself c)
