-- Words of private contracts and of proofs: no public clause names them.
use Rattle.codes.specs.declared.code_range.CodeRange.{CodeRange}
use Rattle.std.specs.Prelude.{◌≡◌, ◌<◌, ◌≤◌, length, ℕ, ◌+◌, ◌-◌, nat_le, List, slice_index_or, if◌then◌else◌, nat_lt}
use Rattle.std.specs.Prelude.{[], ◌∷◌, ◌++◌, min, max}

-- the range at a place
abbrev pub range_nth : List CodeRange → ℕ → CodeRange
range_nth ranges i = slice_index_or ranges i (record { first = 0; last = 0 })

-- the end of the range at a place
abbrev pub range_end : List CodeRange → ℕ → ℕ
range_end ranges i = (slice_index_or ranges i (record { first = 0; last = 0 })).last

-- the least range that has the codes of two
abbrev pub hull : CodeRange → CodeRange → CodeRange
hull a b = record { first = min a.first b.first; last = max a.last b.last }

-- a range in one with those after it that overlap or touch it, and the others
abbrev pub absorbed : CodeRange → List CodeRange → List CodeRange
absorbed a [] = a ∷ []
absorbed a (b ∷ ranges) = if nat_le b.first (a.last + 1) then absorbed (hull a b) ranges else a ∷ b ∷ ranges

-- sorted ranges with one more
abbrev pub with_range : CodeRange → List CodeRange → List CodeRange
with_range a [] = a ∷ []
with_range a (b ∷ ranges) =
    if nat_lt (b.last + 1) a.first then b ∷ with_range a ranges else absorbed a (b ∷ ranges)

-- what of a range lies below another one
abbrev pub part_below : CodeRange → CodeRange → List CodeRange
part_below a b =
    if nat_lt b.first a.first then record { first = b.first; last = min b.last (a.first - 1) } ∷ [] else []

-- what of a range lies above another one
abbrev pub part_above : CodeRange → CodeRange → List CodeRange
part_above a b =
    if nat_lt a.last b.last then record { first = max b.first (a.last + 1); last = b.last } ∷ [] else []

-- ranges without the codes of one
abbrev pub without_range : CodeRange → List CodeRange → List CodeRange
without_range a [] = []
without_range a (b ∷ ranges) = part_below a b ++ part_above a b ++ without_range a ranges

-- what of the range at a place lies below another one
pub record IsPartBelow (ranges : List CodeRange) (i : ℕ) (a below : CodeRange) : Type 0 where
  pub there : i < length ranges
  pub less : (range_nth ranges i).first < a.first
  pub part : below ≡ record { first = (range_nth ranges i).first; last = a.first - 1 }

-- what of the range at a place lies above another one, of which it has a code
pub record IsPartAbove (ranges : List CodeRange) (j : ℕ) (a above : CodeRange) : Type 0 where
  pub there : j < length ranges
  pub meets : (range_nth ranges j).first ≤ a.last
  pub part : above ≡ record { first = a.last + 1; last = (range_nth ranges j).last }
