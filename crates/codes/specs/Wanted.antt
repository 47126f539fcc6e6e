-- Sets of codes, this project's own: whether a code is in a set, and the sorted ranges that hold it.
use Rattle.std.specs.Prelude.{◌≡◌, ℕ, ◌+◌, ◌<◌, ◌≤◌, ◌⊎◌, nat_le, Bool, true, false, ◌&&◌, ◌||◌, if◌then◌else◌, List}
use Rattle.std.specs.Prelude.{[], ◌∷◌}
use Rattle.codes.specs.declared.code_range.CodeRange.{CodeRange}
use Rattle.codes.specs.declared.code_points.TheConstants.{LAST_CODE}

-- no code
abbrev pub no_codes : ℕ → Bool
no_codes c = false

-- all code points
abbrev pub all_codes : ℕ → Bool
all_codes c = nat_le c LAST_CODE

-- the codes from one to another
abbrev pub codes_between : ℕ → ℕ → ℕ → Bool
codes_between first last c = nat_le first c && nat_le c last

-- the codes of either set
abbrev pub either : (ℕ → Bool) → (ℕ → Bool) → ℕ → Bool
either v w c = v c || w c

-- the codes of a set that are not in another one
abbrev pub but_for : (ℕ → Bool) → (ℕ → Bool) → ℕ → Bool
but_for gone w c = if gone c then false else w c

-- first above last, or last above the last code point
abbrev pub IsBadRange : ℕ → ℕ → Type 0
IsBadRange first last = (last < first) ⊎ (LAST_CODE < last)

-- a code is in one of the ranges
abbrev pub member : List CodeRange → ℕ → Bool
member [] c = false
member (range ∷ ranges) c = codes_between range.first range.last c || member ranges c

-- sorted ranges that neither overlap nor touch, none empty, the first not below a bound
abbrev pub AreSeparate : ℕ → List CodeRange → Type 0
AreSeparate low [] = Unit {0}
AreSeparate low (range ∷ ranges) =
    (low ≤ range.first) × (range.first ≤ range.last) × AreSeparate (range.last + 2) ranges

-- the first codes of a set from a given one on, in a row
pub record IsRow (w : ℕ → Bool) (from : ℕ) (range : CodeRange) : Type 0 where
  pub from_on : from ≤ range.first
  pub least : (c : ℕ) → from ≤ c → c < range.first → w c ≡ false
  pub order : range.first ≤ range.last
  pub all : (c : ℕ) → range.first ≤ c → c ≤ range.last → w c ≡ true

-- a set has no code from a given one on
abbrev pub NoRow : (ℕ → Bool) → ℕ → Type 0
NoRow w from = (c : ℕ) → from ≤ c → w c ≡ false
