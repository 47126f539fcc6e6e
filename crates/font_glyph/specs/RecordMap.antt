-- Maps from numbers to records, and their unions, this project's own.
use Rattle.std.specs.Prelude.{◌≡◌, ℕ, Bool, true, List, [], Option, Some, IsSome}
use Rattle.std.specs.Option.{option_or, unwrap_or}
use Rattle.font_glyph.specs.Reach.{IsComponentOf}

-- the record of each number that has one
abbrev pub Records : Type 0
Records = ℕ → Option (List ℕ)

-- the record of a number, and an empty one of a number that has none
abbrev pub record_in : Records → ℕ → List ℕ
record_in records g = unwrap_or (records g) []

-- each component of a record has a record
abbrev pub HoldsComponents : Records → Type 0
HoldsComponents records = (s g : ℕ) → IsComponentOf (record_in records s) g → IsSome (records g)

-- the records are equal where both have one
abbrev pub AreEqualWhereBoth : Records → Records → Type 0
AreEqualWhereBoth first second = (g : ℕ) (a b : List ℕ) → first g ≡ Some a → second g ≡ Some b → a ≡ b

-- the records of both
abbrev pub union_of : Records → Records → Records
union_of first second g = option_or (first g) (second g)

-- each seed has a record
abbrev pub AreAmong : (ℕ → Bool) → Records → Type 0
AreAmong seeds records = (g : ℕ) → seeds g ≡ true → IsSome (records g)
