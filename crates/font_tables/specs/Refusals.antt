-- Why the tables of a font are refused, this project's own: lines in their order, each with its condition.
use Rattle.std.specs.Prelude.{ℕ, ◌+◌, ◌-◌, ◌*◌, nat_lt, nat_eq, not, Bool, ◌&&◌, ◌||◌, List, [], ◌∷◌, length, find}
use Rattle.std.specs.Prelude.{Option, is_none}
use Rattle.std.specs.List.{range_with_len}
use Rattle.std.specs.Option.{option_map}
use Rattle.sfnt_bytes.specs.Directory.{table_of}
use Rattle.sfnt_bytes.specs.Lines.{when, first_of_lines}
use Rattle.sfnt_bytes.specs.declared.tag.Tag.{Tag}
use Rattle.font_tables.specs.Fields.{glyph_count_of, index_to_loc_format, loca_form_of, magic_number, maxp_version}
use Rattle.font_tables.specs.Fields.{metric_count_of, num_glyphs, number_of_h_metrics}
use Rattle.font_tables.specs.Outlines.{offset_at, offset_size}
use Rattle.font_tables.specs.Tables.{glyf_of, head_of, hhea_of, hmtx_of, loca_of, maxp_of, required_tags}
use Rattle.font_tables.specs.declared.loca.LocaForm.{LocaForm}
use Rattle.font_tables.specs.declared.tables.TableError.{TableError}
use Rattle.font_tables.specs.declared.tables.TableError.TheVariants.{MissingTable, BadHead, BadMaxp, BadHhea, BadHmtx}
use Rattle.font_tables.specs.declared.tables.TableError.TheVariants.{BadLoca}

-- no record carries the tag
unfoldable pub is_missing : List ℕ → Tag → Bool
is_missing file tag = is_none (table_of file tag)

-- fewer than 54 bytes, another magicNumber, or an indexToLocFormat that is not 0 or 1
abbrev pub is_bad_head : List ℕ → Bool
is_bad_head head =
    nat_lt (length head) 54 || not (nat_eq (magic_number head) 0x5F0F3CF5)
    || nat_lt 1 (index_to_loc_format head)

-- fewer than 32 bytes, a version that is not 1.0, or no glyph
abbrev pub is_bad_maxp : List ℕ → Bool
is_bad_maxp maxp =
    nat_lt (length maxp) 32 || not (nat_eq (maxp_version maxp) 0x00010000) || nat_eq (num_glyphs maxp) 0

-- fewer than 36 bytes, no pair, or more pairs than glyphs
abbrev pub is_bad_hhea : List ℕ → ℕ → Bool
is_bad_hhea hhea glyphs =
    nat_lt (length hhea) 36 || nat_eq (number_of_h_metrics hhea) 0 || nat_lt glyphs (number_of_h_metrics hhea)

-- no room for h pairs, and for a bearing of each glyph past them
abbrev pub is_bad_hmtx : List ℕ → ℕ → ℕ → Bool
is_bad_hmtx hmtx h glyphs = nat_lt (length hmtx) (4 * h + 2 * (glyphs - h))

-- offset j does not lie within `loca`, is above the length of `glyf`, or is below the offset before it
unfoldable pub is_bad_offset : LocaForm → List ℕ → ℕ → ℕ → Bool
is_bad_offset form loca glyf_length j =
    nat_lt (length loca) (offset_size form * (j + 1))
    || nat_lt glyf_length (offset_at form loca j)
    || (nat_lt 0 j && nat_lt (offset_at form loca j) (offset_at form loca (j - 1)))

-- the same of a file
abbrev pub is_bad_loca_at : List ℕ → ℕ → Bool
is_bad_loca_at file j = is_bad_offset (loca_form_of file) (loca_of file) (length (glyf_of file)) j

-- the refusals, where `find` gives the least tag and the least index: there is one offset more than there are
-- glyphs
abbrev pub table_lines : List ℕ → List (Option TableError)
table_lines file =
    option_map MissingTable (find (is_missing file) required_tags)
    ∷ when (is_bad_head (head_of file)) BadHead
    ∷ when (is_bad_maxp (maxp_of file)) BadMaxp
    ∷ when (is_bad_hhea (hhea_of file) (glyph_count_of file)) BadHhea
    ∷ when (is_bad_hmtx (hmtx_of file) (metric_count_of file) (glyph_count_of file)) BadHmtx
    ∷ option_map BadLoca (find (is_bad_loca_at file) (range_with_len 0 (glyph_count_of file + 1)))
    ∷ []

-- the first refusal that applies
unfoldable pub table_fault : List ℕ → Option TableError
table_fault file = first_of_lines (table_lines file)
