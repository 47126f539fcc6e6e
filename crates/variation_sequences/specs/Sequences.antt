-- The variation sequences of a font: a map from selector and code to a glyph (OpenType 1.9, cmap, Format 14: Unicode
-- variation sequences).
use Rattle.std.specs.Prelude.{ℕ, ◌-◌, nat_eq, nat_lt, Bool, ◌&&◌, List, is_some, if◌then◌else◌, Option, None, Some}
use Rattle.std.specs.List.{filter_map, flat_map, range_with_len}
use Rattle.std.specs.Option.{option_and_then, option_map}
use Rattle.codes.specs.declared.code_points.TheConstants.{CODES}
use Rattle.variation_sequences.specs.Encoding.{subtable_of}
use Rattle.variation_sequences.specs.Format14.{default_ranges, mapping_glyph, mappings_of, selector_at}
use Rattle.variation_sequences.specs.Format14.{selector_count}
use Rattle.variation_sequences.specs.Spans.{member_with}
use Rattle.variation_sequences.specs.Strict.{mapping_with, range_with}
use Rattle.variation_sequences.specs.declared.variant.Entry.{Entry}
use Rattle.variation_sequences.specs.declared.variant.Variant.{Variant}
use Rattle.variation_sequences.specs.declared.variant.Variant.TheVariants.{Glyph, Unchanged}

-- what a default and a non-default table say of a code
unfoldable pub variant_in : List ℕ → List ℕ → ℕ → Option Variant
variant_in t u c =
    if is_some (range_with t c) then Some Unchanged
    else option_map (λ j. Glyph (mapping_glyph u j)) (mapping_with u c)

-- what record k says of a code
abbrev pub variant_under : List ℕ → ℕ → ℕ → Option Variant
variant_under s k c = variant_in (default_ranges s k) (mappings_of s k) c

-- the record of a selector
abbrev pub record_with : List ℕ → ℕ → Option ℕ
record_with s v = member_with (selector_at s) (selector_at s) (selector_count s) v

-- what a subtable says of a selector and a code
unfoldable pub variant_of : List ℕ → ℕ → ℕ → Option Variant
variant_of s v c = option_and_then (λ k. variant_under s k c) (record_with s v)

-- the glyph of a variant among n glyphs, 0 where there is none: its own, or that of the code in the map of the font
abbrev pub variant_glyph : ℕ → ℕ → Option Variant → ℕ
variant_glyph n of_code None = 0
variant_glyph n of_code (Some Unchanged) = of_code
variant_glyph n of_code (Some (Glyph g)) = if nat_lt g n then g else 0

-- the glyph of a selector and a code in a font with this `cmap`, its map to n glyphs, 0 where there is none
unfoldable pub sequence_of : List ℕ → (ℕ → ℕ) → ℕ → ℕ → ℕ → ℕ
sequence_of cmap of_code n v c =
    variant_glyph n (of_code c) (option_and_then (λ s. variant_of s v c) (subtable_of cmap))

-- what the tables of a selector have, in order of the codes, from one on
unfoldable pub entries_in : ℕ → List ℕ → List ℕ → ℕ → List Entry
entries_in v t u from =
    filter_map (λ c. option_map (λ x. record { selector = v; code = c; variant = x }) (variant_in t u c))
    (range_with_len from (CODES - from))

-- what record k has
abbrev pub entries_of_record : List ℕ → ℕ → List Entry
entries_of_record s k = entries_in (selector_at s k) (default_ranges s k) (mappings_of s k) 0

-- what the records from one on have
unfoldable pub entries_from_record : List ℕ → ℕ → List Entry
entries_from_record s k = flat_map (entries_of_record s) (range_with_len k (selector_count s - k))

-- all that a subtable has, in order of selectors and codes
unfoldable pub entries_of : List ℕ → List Entry
entries_of s = entries_from_record s 0

-- an entry is of a selector and a code
abbrev pub is_of : ℕ → ℕ → Entry → Bool
is_of v c e = nat_eq e.selector v && nat_eq e.code c
