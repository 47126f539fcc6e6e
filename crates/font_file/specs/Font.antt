-- The fonts that are accepted, and all refusals in their order (OpenType 1.9, Organization of an OpenType
-- Font).
use Rattle.std.specs.Prelude.{ℕ, Bool, false, not, nat_lt, List, [], ◌∷◌, ◌++◌, find, map, Option, unwrap_or}
use Rattle.std.specs.List.{list_all, range_with_len}
use Rattle.std.specs.Option.{option_map, option_map_or}
use Rattle.sfnt_bytes.specs.Lines.{first_of_lines}
use Rattle.sfnt_bytes.specs.Directory.{kept_tag, table_of}
use Rattle.sfnt_bytes.specs.declared.tag.TheConstants.{CMAP}
use Rattle.sfnt_bytes.specs.Refusals.{directory_lines}
use Rattle.font_tables.specs.Fields.{glyph_count_of}
use Rattle.font_tables.specs.Outlines.{outline_of}
use Rattle.font_tables.specs.Refusals.{table_lines}
use Rattle.font_map.specs.Mapping.{mapping_of}
use Rattle.font_map.specs.Refusals.{map_lines}
use Rattle.font_glyph.specs.Record.{components_of}
use Rattle.font_file.specs.declared.font_error.FontError.{FontError}
use Rattle.font_file.specs.declared.font_error.FontError.TheVariants.{BadGlyph, Directory, Mapping, Tables}

-- the bytes of `cmap`
unfoldable pub cmap_of : List ℕ → List ℕ
cmap_of file = unwrap_or (table_of file (kept_tag CMAP)) []

-- a record has a list of components, all of them glyphs below a count
unfoldable pub is_record : ℕ → List ℕ → Bool
is_record count b =
    option_map_or (λ list. list_all (λ component. nat_lt component.glyph count) list) (components_of b) false

-- the record of a glyph has no such list
unfoldable pub is_bad_glyph : List ℕ → ℕ → Bool
is_bad_glyph file g = not (is_record (glyph_count_of file) (outline_of file g))

-- the refusals of the records, where `find` gives the least glyph
abbrev pub glyph_lines : List ℕ → List (Option FontError)
glyph_lines file =
    option_map BadGlyph (find (is_bad_glyph file) (range_with_len 0 (glyph_count_of file))) ∷ []

-- the refusals of a file: of its directory, its tables, its mapping and its glyph records
abbrev pub font_lines : List ℕ → List (Option FontError)
font_lines file =
    map (option_map Directory) (directory_lines file)
    ++ (map (option_map Tables) (table_lines file)
    ++ (map (option_map Mapping) (map_lines (cmap_of file))
    ++ glyph_lines file))

-- the first refusal that applies; with none the file is accepted
unfoldable pub font_fault : List ℕ → Option FontError
font_fault file = first_of_lines (font_lines file)

-- the character map of a file
abbrev pub map_of : List ℕ → ℕ → ℕ
map_of file = mapping_of (cmap_of file) (glyph_count_of file)
