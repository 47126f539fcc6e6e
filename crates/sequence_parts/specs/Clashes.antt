-- What stands in two parts of variation sequences, this project's own.
use Rattle.std.specs.Prelude.{ℕ, nat_eq, Bool, List, length, if◌then◌else◌, Option}
use Rattle.std.specs.List.{list_any}
use Rattle.font_theory.specs.OrderedPairs.{first_twice, is_pair_of}
use Rattle.font_theory.specs.SequenceTable.{pairs_at, pairs_of_parts}

-- the part of a glyph has this selector and code
unfoldable pub has_sequence : ℕ → (ℕ → List ℕ) → ℕ → ℕ → ℕ → Bool
has_sequence n parts v c g = list_any (is_pair_of v c) (pairs_at n parts g)

-- the parts of either of two families: of glyphs of which the first has none, those of the second
abbrev pub either_part : (ℕ → List ℕ) → (ℕ → List ℕ) → ℕ → List ℕ
either_part P Q g = if nat_eq (length (P g)) 0 then Q g else P g

-- the first selector and code that are in two parts of two families
unfoldable pub first_clash : ℕ → (ℕ → List ℕ) → (ℕ → List ℕ) → Option (ℕ × ℕ)
first_clash n P Q = first_twice (pairs_of_parts n (either_part P Q))
