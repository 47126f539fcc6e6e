-- What lists of lines say, and what a search that finds nothing shows.
use Rattle.std.proofs.Common.{◌≡◌, ℕ, zero, suc, ◌<◌, ◌≤◌, Bool, true, false, List, [], ◌∷◌, ◌++◌, find, get_or, length}
use Rattle.std.proofs.Common.{map, Option, Some, None, refl, arith}
use Rattle.std.specs.Option.{option_map, option_or}
use Rattle.std.proofs.lemmas.Bool.{cond_both}
use Rattle.sfnt_bytes.specs.Lines.{when, first_of_lines, said_lines}

pub first_of_lines-append : {X : Type 0} (xs ys : List (Option X))
    → first_of_lines (xs ++ ys) ≡ option_or (first_of_lines xs) (first_of_lines ys)
first_of_lines-append [] ys = refl
first_of_lines-append (Some x ∷ xs) ys = refl
first_of_lines-append (None ∷ xs) ys = first_of_lines-append xs ys

pub first_of_lines-map : {X Y : Type 0} (f : X → Y) (xs : List (Option X)) → first_of_lines (map (option_map f) xs)
    ≡ option_map f (first_of_lines xs)
first_of_lines-map f [] = refl
first_of_lines-map f (Some x ∷ xs) = refl
first_of_lines-map f (None ∷ xs) = first_of_lines-map f xs

-- where no line says anything, the line at each place says nothing
pub first_of_lines-none_at : {X : Type 0} (lines : List (Option X)) (k : ℕ) → first_of_lines lines ≡ None
    → get_or lines k None ≡ None
first_of_lines-none_at [] k h = refl
first_of_lines-none_at (Some x ∷ lines) k h = cc
first_of_lines-none_at (None ∷ lines) zero h = refl
first_of_lines-none_at (None ∷ lines) (suc k) h = first_of_lines-none_at lines k h

pub when-none : {X : Type 0} (b : Bool) (x : X) → when b x ≡ None → b ≡ false
when-none true x h = cc
when-none false x h = refl

pub option_map-none : {X Y : Type 0} (f : X → Y) (o : Option X) → option_map f o ≡ None → o ≡ None
option_map-none f None h = refl
option_map-none f (Some x) h = cc

-- a test that finds nothing fails at each place
pub find-none_at : {X : Type 0} (p : X → Bool) (xs : List X) (k : ℕ) (d : X) → find p xs ≡ None → k < length xs
    → p (get_or xs k d) ≡ false
find-none_at p [] k d h l = absurd (omega arith)
find-none_at p (x ∷ xs) zero d h l =
    cond_both (p x) (Some x) (find p xs) (λ o. o ≡ None → p x ≡ false) (λ t q. cc) (λ f q. f) h
find-none_at p (x ∷ xs) (suc k) d h l =
    find-none_at p xs k d (cond_both (p x) (Some x) (find p xs) (λ o. o ≡ None → find p xs ≡ None) (λ t q. cc)
    (λ f q. q) h) (omega arith)

-- lines say no more than there are of them
pub length-said_lines : {X : Type 0} (lines : List (Option X)) → length (said_lines lines) ≤ length lines
length-said_lines [] = omega arith
length-said_lines (Some x ∷ lines) = let rest = length-said_lines lines in omega arith
length-said_lines (None ∷ lines) = let rest = length-said_lines lines in omega arith
