-- Tables of variation sequences, this project's own: the pairs of a font with their glyphs, and those of the parts of
-- glyphs (OpenType 1.9, cmap, Format 14: Unicode variation sequences).
use Rattle.std.specs.Prelude.{ℕ, nat_eq, nat_le, not, Bool, ◌&&◌, List, [], ◌∷◌, length, is_some, if◌then◌else◌}
use Rattle.std.specs.List.{filter_map, range_with_len}
use Rattle.std.specs.Str.{bytes_eq}
use Rattle.sfnt_bytes.specs.Number.{u32_at}
use Rattle.variation_sequences.specs.Encoding.{is_whole}
use Rattle.variation_sequences.specs.Pairs.{pair_of, part_of, sequence_pairs}
use Rattle.variation_sequences.specs.Sequences.{entries_of}
use Rattle.variation_sequences.specs.Strict.{is_strict}
use Rattle.variation_sequences.specs.Written.{subtable_bytes}
use Rattle.variation_sequences.specs.declared.variant.Pair.{Pair}
use Rattle.font_theory.specs.OrderedPairs.{first_twice, merged}

-- the table of pairs in order: none without a pair
unfoldable pub sequence_table : List Pair → List ℕ
sequence_table [] = []
sequence_table (p ∷ ps) = subtable_bytes (p ∷ ps)

-- the table of a font with this `cmap` and its map to n glyphs
abbrev pub sequences_of_font : List ℕ → (ℕ → ℕ) → ℕ → List ℕ
sequences_of_font cmap of_code n = sequence_table (sequence_pairs cmap of_code n)

-- a table is a subtable from its start to its end, which is read
unfoldable pub is_read : List ℕ → Bool
is_read t = is_whole t && nat_eq (u32_at t 2) (length t) && is_strict t

-- the pairs in a table among n glyphs: default entries say nothing, for they have no glyph of their own
unfoldable pub sequences_in : ℕ → List ℕ → List Pair
sequences_in n t = if is_read t then filter_map (pair_of n 0) (entries_of t) else []

-- a table is bad: it is not that of the pairs in it. A table without a byte is one of no pair
unfoldable pub is_bad_sequences : List ℕ → ℕ → Bool
is_bad_sequences t n = not (bytes_eq (sequence_table (sequences_in n t)) t)

-- the pairs of a glyph in its part
abbrev pub pairs_at : ℕ → (ℕ → List ℕ) → ℕ → List Pair
pairs_at n parts g = part_of (sequences_in n (parts g)) g

-- those of some glyphs, in order
abbrev pub pairs_among : ℕ → (ℕ → List ℕ) → List ℕ → List Pair
pairs_among n parts [] = []
pairs_among n parts (g ∷ gs) = merged (pairs_at n parts g) (pairs_among n parts gs)

-- those of n glyphs
unfoldable pub pairs_of_parts : ℕ → (ℕ → List ℕ) → List Pair
pairs_of_parts n parts = pairs_among n parts (range_with_len 0 n)

-- how many pairs a table has at most, for no longer one is read
unfoldable pub MAX_PAIRS : ℕ
MAX_PAIRS = 1048576

-- no selector and code is in two parts, and there are not too many pairs
unfoldable pub have_room : List Pair → Bool
have_room ps = not (is_some (first_twice ps)) && nat_le (length ps) MAX_PAIRS
