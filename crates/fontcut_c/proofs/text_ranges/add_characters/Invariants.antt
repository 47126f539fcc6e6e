use Rattle.std.proofs.Common.{◌≡◌, ℕ, All, true}
use Rattle.codes.specs.Wanted.{member}
use Rattle.fontcut_c.specs.Requests.{codes_of_ranges}
use Rattle.fontcut_c.proofs.text_ranges.add_characters.Given as goal

-- the ranges have each character so far, and the codes that they had
abbrev pub invariant-loop-letter : goal.invariant-loop-letter
invariant-loop-letter l =
    All (λ code. codes_of_ranges l.ranges.items code ≡ true) l.yielded
    × ((code : ℕ) → member l.wanted code ≡ true → codes_of_ranges l.ranges.items code ≡ true)
