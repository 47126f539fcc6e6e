-- An answer whose status is above all numbers of refusals says no error.
use Rattle.std.proofs.Common.{◌≡◌, ℕ, nat_eq, nat_lt, ◌&&◌, ◌≤◌, Bool, List, [], ◌∷◌, None, Option, ap, arith}
use Rattle.std.proofs.lemmas.Bool.Decides.{nat_tests}
use Rattle.std.specs.Option.{option_map}
use Rattle.sfnt_bytes.specs.Lines.{first_of_lines, when}
use Rattle.font_join.specs.declared.join_error.JoinAllError.TheVariants.{At, NothingToJoin}
use Rattle.fontcut_c.specs.Errors.{error_of, font_error_lines, font_error_of, join_error_lines, join_error_of}
use Rattle.fontcut_c.specs.declared.answer.Answer.{Answer}
use Rattle.fontcut_c.specs.declared.refusal.Refusal.{Refusal}
use Rattle.fontcut_c.specs.declared.refusal.Refusal.TheVariants.{BadRange, Font, Join, NoMemory}

-- a number that is large is no smaller one
is_large : (number k : ℕ) → 256 ≤ number → nat_eq number k ≡ (nat_lt 255 k && nat_eq number k)
is_large number k large = grind (arith, nat_tests, large)

-- the errors, each where this is its number
abbrev lines_by : (ℕ → Bool) → Answer → List (Option Refusal)
lines_by is answer =
    option_map Font (first_of_lines (font_error_lines is answer.detail))
    ∷ when (is 15) (BadRange answer.detail)
    ∷ when (is 16) NoMemory
    ∷ when (is 24) (Join NothingToJoin)
    ∷ option_map (λ error. Join (At answer.step error)) (first_of_lines (join_error_lines is answer))
    ∷ []

pub no_error : (answer : Answer) → 256 ≤ answer.status → error_of answer ≡ None
unfolding error_of font_error_of join_error_of
no_error answer large =
    ap (λ (is : ℕ → Bool). first_of_lines (lines_by is answer)) (λ i k. is_large answer.status k large i)
