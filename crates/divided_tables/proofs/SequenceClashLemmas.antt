-- Pairs in order of which two have one selector and code.
use Rattle.std.proofs.Common.{◌≡◌, ℕ, Bool, true, false, cond, eqb, List, [], ◌∷◌, Option, None, Some, refl}
use Rattle.std.proofs.Common.{ap, sym, ◌∙◌}
use Rattle.std.specs.Option.{option_or}
use Rattle.variation_sequences.specs.declared.variant.Pair.{Pair}
use Rattle.font_theory.specs.OrderedPairs.{first_twice, place_of}
use Rattle.divided_tables.specs.SequenceIndex.{after, clash_of}

-- one more pair
twice_after : (o : Option Pair) (p : Pair) (ps : List Pair)
    → first_twice (after o (p ∷ ps)) ≡ option_or (clash_of o p) (first_twice (p ∷ ps))
unfolding first_twice
twice_after None p ps = refl
twice_after (Some q) p ps = by_test (eqb (place_of q) (place_of p))
  where
    by_test : (b : Bool) → cond b (Some (q.selector, q.code)) (first_twice (p ∷ ps))
        ≡ option_or (cond b (Some (q.selector, q.code)) None) (first_twice (p ∷ ps))
    by_test true = refl
    by_test false = refl

pub clash_is : (o : Option Pair) (p : Pair) (ps left all : List Pair) (x : ℕ × ℕ) → left ≡ p ∷ ps
    → first_twice (after o left) ≡ first_twice all → clash_of o p ≡ Some x → Some x ≡ first_twice all
clash_is o p ps left all x e h is =
    sym (ap (λ (f : Option (ℕ × ℕ)). option_or f (first_twice (p ∷ ps))) is)
    ∙ sym (twice_after o p ps) ∙ ap (λ (l : List Pair). first_twice (after o l)) (sym e) ∙ h

pub no_clash_yet : (o : Option Pair) (p : Pair) (ps left all : List Pair) → left ≡ p ∷ ps
    → first_twice (after o left) ≡ first_twice all → clash_of o p ≡ None → first_twice (p ∷ ps) ≡ first_twice all
no_clash_yet o p ps left all e h none =
    sym (ap (λ (f : Option (ℕ × ℕ)). option_or f (first_twice (p ∷ ps))) none)
    ∙ sym (twice_after o p ps) ∙ ap (λ (l : List Pair). first_twice (after o l)) (sym e) ∙ h

none_after : (o : Option Pair) → first_twice (after o []) ≡ None
unfolding first_twice
none_after None = refl
none_after (Some q) = refl

pub no_clash : (o : Option Pair) (left all : List Pair) → left ≡ []
    → first_twice (after o left) ≡ first_twice all → None ≡ first_twice all
no_clash o left all e h =
    sym (none_after o) ∙ ap (λ (l : List Pair). first_twice (after o l)) (sym e) ∙ h
