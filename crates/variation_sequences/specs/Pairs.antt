-- The pairs of a font: selector and code with a glyph, and those of one glyph (OpenType 1.9, cmap, Format 14: Unicode
-- variation sequences; how they are told apart is this project's own).
use Rattle.std.specs.Prelude.{ℕ, nat_eq, List, [], filter, if◌then◌else◌, None, Option, Some}
use Rattle.std.specs.List.{filter_map}
use Rattle.std.specs.Option.{option_map_or}
use Rattle.variation_sequences.specs.Encoding.{subtable_of}
use Rattle.variation_sequences.specs.Sequences.{entries_of, variant_glyph}
use Rattle.variation_sequences.specs.declared.variant.Entry.{Entry}
use Rattle.variation_sequences.specs.declared.variant.Pair.{Pair}

-- the pair of an entry among n glyphs, where the map of the font gives its code a glyph; none without a glyph
abbrev pub pair_of : ℕ → ℕ → Entry → Option Pair
pair_of n of_code e = let g = variant_glyph n of_code (Some e.variant) in
    if nat_eq g 0 then None else Some (record { selector = e.selector; code = e.code; glyph = g })

-- all pairs of a font with this `cmap` and its map to n glyphs, in order
unfoldable pub sequence_pairs : List ℕ → (ℕ → ℕ) → ℕ → List Pair
sequence_pairs cmap of_code n =
    option_map_or (λ s. filter_map (λ e. pair_of n (of_code e.code) e) (entries_of s)) (subtable_of cmap) []

-- the part of a glyph: its pairs
unfoldable pub part_of : List Pair → ℕ → List Pair
part_of pairs g = filter (λ p. nat_eq p.glyph g) pairs
