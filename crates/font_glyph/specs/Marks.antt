-- A set of glyphs below a count, as the list of answers, this project's own.
use Rattle.std.specs.Prelude.{◌≡◌, ◌<◌, ◌≤◌, ℕ, Bool, false, List, slice_index_or}

-- the glyph is marked
unfoldable pub has : List Bool → ℕ → Bool
has marks g = slice_index_or marks g false

-- no glyph from a given one on up to a stop is marked
abbrev pub NoMark : List Bool → ℕ → ℕ → Type 0
NoMark marks from stop = (g : ℕ) → from ≤ g → g < stop → has marks g ≡ false
