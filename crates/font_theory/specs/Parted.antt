-- The tables that are divided (OpenType 1.9, hmtx; vmtx; post; gvar; cmap, Format 14: Unicode variation sequences).
use Rattle.std.specs.Prelude.{ℕ, ◌+◌, ◌-◌, ◌*◌, ◌/◌, ◌%◌, bit_or, nat_eq, nat_le, nat_lt, not, Bool, ◌&&◌, ◌||◌, true}
use Rattle.std.specs.Prelude.{List, [], ◌++◌, drop, length, map, replicate, slice_index, take, if◌then◌else◌}
use Rattle.std.specs.List.{range_with_len}
use Rattle.std.specs.Str.{bytes_eq}
use Rattle.sfnt_bytes.specs.declared.tag.TheConstants.{GVAR, HHEA, HMTX, VHEA, VMTX}
use Rattle.font_tables.specs.Fields.{number_of_h_metrics}
use Rattle.font_tables.specs.Refusals.{is_bad_hhea, is_bad_hmtx}
use Rattle.font_variations.specs.Gvar.{data_of, front_of, shared_tuples_of}
use Rattle.font_variations.specs.MadeGvar.{gvar_bytes}
use Rattle.variation_sequences.specs.Pairs.{part_of}
use Rattle.font_theory.specs.Bytes.{bytes32}
use Rattle.font_theory.specs.Content.{glyph_count, table_in_slot}
use Rattle.font_theory.specs.Parting.{Parting, Tables}
use Rattle.font_theory.specs.SequenceTable.{have_room, pairs_of_parts, sequence_table, sequences_in}

-- the number of pairs in a table of metrics (OpenType 1.9, hhea, numberOfHMetrics; vhea,
-- numOfLongVerMetrics), or 0 where the header does not describe the table
unfoldable pub pairs_of : Tables → ℕ → List ℕ → ℕ
pairs_of copied header table =
    let k = number_of_h_metrics (table_in_slot copied header) in
    if is_bad_hhea (table_in_slot copied header) (glyph_count copied) || is_bad_hmtx table k (glyph_count copied) then 0
    else k

-- the number of bytes of glyph g alone, in a table of k pairs and then bearings (OpenType 1.9, hmtx; vmtx):
-- a pair has four, and the last pair and each bearing after it two, for the last advance is that of all
-- glyphs from there on
unfoldable pub entry_size : ℕ → ℕ → ℕ
entry_size k g = if nat_eq k 0 then 0 else if nat_lt (g + 1) k then 4 else 2

-- the place of these bytes (OpenType 1.9, hmtx; vmtx)
unfoldable pub entry_start : ℕ → ℕ → ℕ
entry_start k g = if nat_lt (g + 1) k then 4 * g else 2 * (k + g)

-- byte j of such a table for n glyphs is of one glyph alone: it is none of the last advance, nor after the
-- bearings
unfoldable pub is_entry : ℕ → ℕ → ℕ → Bool
is_entry k n j =
    not (nat_eq k 0) && (nat_lt j (2 * (k + n)) && (nat_lt (j + 4) (4 * k) || nat_le (4 * k) (j + 2)))

-- the glyph that byte j is of
unfoldable pub holder : ℕ → ℕ → ℕ
holder k j = if nat_lt (j + 4) (4 * k) then j / 4 else (j - 2 * k) / 2

-- the place of byte j among the bytes of that glyph
unfoldable pub place_in_entry : ℕ → ℕ → ℕ
place_in_entry k j = if nat_lt (j + 4) (4 * k) then j % 4 else j % 2

-- the bytes of glyph g alone, filled with zeros to four
unfoldable pub metric_bytes : ℕ → List ℕ → ℕ → List ℕ
metric_bytes k table g =
    map (λ i. if nat_lt i (entry_size k g) then slice_index table (entry_start k g + i) else 0)
    (range_with_len 0 4)

-- none where all are 0
unfoldable pub bare : List ℕ → List ℕ
bare bytes = if bytes_eq bytes (replicate 4 0) then [] else bytes

-- a table with the bytes of glyphs; with 0 where a glyph has none
unfoldable pub laid : (ℕ → List ℕ) → ℕ → ℕ → List ℕ → List ℕ
laid parts k n table =
    map (λ j. if is_entry k n j then slice_index (parts (holder k j)) (place_in_entry k j) else slice_index table j)
    (range_with_len 0 (length table))

-- a table with zeros for the bytes of each glyph
abbrev pub blank : ℕ → ℕ → List ℕ → List ℕ
blank k n table = laid (λ _. []) k n table

-- a table of metrics: with zeros for the bytes of each glyph; these bytes; and both together
unfoldable pub metrics : ℕ → Parting
metrics header = record {
  frame = λ c t. laid (λ _. []) (pairs_of c header t) (glyph_count c) t;
  part = λ c t g. bare (metric_bytes (pairs_of c header t) t g);
  whole = λ c t parts. laid parts (pairs_of c header t) (glyph_count c) t;
  fits = λ _ _ _. true;
}

-- `post` in version 3.0, which has no names (OpenType 1.9, post, Version 3.0); one too short for its fields
-- as it is
unfoldable pub thin_post : List ℕ → List ℕ
thin_post b = if nat_lt (length b) 32 then b else bytes32 0x00030000 ++ take 28 (drop 4 b)

-- `post` without the names of all glyphs
unfoldable pub nameless : Parting
nameless = record { frame = λ _ t. thin_post t; part = λ _ _ _. []; whole = λ _ frame _. frame; fits = λ _ _ _. true }

-- a `gvar` made anew, with these data for n glyphs
abbrev pub gvar_with : (ℕ → List ℕ) → ℕ → List ℕ → List ℕ
gvar_with of_glyph n gvar = gvar_bytes (front_of gvar) (shared_tuples_of gvar) of_glyph n

-- `gvar`: without data; the data of a glyph (OpenType 1.9, gvar, GlyphVariationData); and both together
unfoldable pub variations : Parting
variations = record {
  frame = λ c t. gvar_with (λ _. []) (glyph_count c) t;
  part = λ _ t g. data_of t g;
  whole = λ c t parts. gvar_with parts (glyph_count c) t;
  fits = λ _ _ _. true;
}

-- variation sequences: nothing is of no glyph; the pairs of a glyph; and those of all glyphs in order, of which no two
-- have one selector and code
unfoldable pub sequences : Parting
sequences = record {
  frame = λ _ _. [];
  part = λ c t g. sequence_table (part_of (sequences_in (glyph_count c) t) g);
  whole = λ c _ parts. sequence_table (pairs_of_parts (glyph_count c) parts);
  fits = λ c _ parts. have_room (pairs_of_parts (glyph_count c) parts);
}

-- the number of pairs in a table of metrics, by slots
abbrev pub pairs_in : Tables → ℕ → ℕ → ℕ
pairs_in copied header table = pairs_of copied header (table_in_slot copied table)

-- the metrics of glyph g: four bytes of `hmtx` and four of `vmtx` (OpenType 1.9, hmtx; vmtx)
unfoldable pub metrics_at : Tables → ℕ → List ℕ
metrics_at copied g =
    metric_bytes (pairs_in copied HHEA HMTX) (table_in_slot copied HMTX) g
    ++ metric_bytes (pairs_in copied VHEA VMTX) (table_in_slot copied VMTX) g

-- the variation data of a glyph (OpenType 1.9, gvar, GlyphVariationData), none where there is no `gvar`
unfoldable pub variation_data : Tables → ℕ → List ℕ
variation_data copied g = data_of (table_in_slot copied GVAR) g

-- a table with zeros for the bytes of the glyphs that are not kept
unfoldable pub cleared : (ℕ → Bool) → ℕ → ℕ → List ℕ → List ℕ
cleared keeps k n table =
    map (λ j. if is_entry k n j && not (keeps (holder k j)) then 0 else slice_index table j)
    (range_with_len 0 (length table))

-- the bits of two tables, byte by byte: where one has 0, the byte of the other
unfoldable pub either_bytes : List ℕ → List ℕ → List ℕ
either_bytes first second =
    map (λ j. bit_or (slice_index first j) (slice_index second j)) (range_with_len 0 (length first))
