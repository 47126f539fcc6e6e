-- What `show` prints of a font, this project's own.
use Rattle.std.specs.Prelude.{ℕ, List, [], ◌∷◌, ◌++◌, codes, decimal, length, Option}
use Rattle.std.specs.List.{flat_map, range_with_len}
use Rattle.std.specs.Option.{option_copied, option_map_or}
use Rattle.font_subset.specs.CutOfFont.{cut_form_of}
use Rattle.sfnt_bytes.specs.declared.records.Entry.{Entry}
use Rattle.font_tables.specs.declared.loca.LocaForm.{LocaForm}
use Rattle.font_tables.specs.declared.loca.LocaForm.TheVariants.{Long, Short}
use Rattle.sfnt_bytes.specs.declared.tag.TheConstants.{SLOTS}
use Rattle.sfnt_bytes.specs.declared.tag.Tag.{Tag}
use Rattle.font_map.specs.Cmap.{chosen_of}
use Rattle.font_file.specs.Font.{cmap_of}
use Rattle.sfnt_bytes.specs.Directory.{dropped_of, kept_tag, table_of}
use Rattle.font_tables.specs.Fields.{glyph_count_of, loca_form_of, metric_count_of, units_per_em_of}
use Rattle.codes.specs.CharacterMap.{mapped_codes}
use Rattle.font_map.specs.Mapping.{mapping_of}
use Rattle.sfnt_bytes.specs.Text.{tag_text}
use Rattle.font_subset.specs.declared.forms.CutForm.{CutForm}
use Rattle.font_subset.specs.declared.forms.CutForm.TheVariants.{Current, Not, Old}
use Rattle.commands.specs.Check.{line}
use Rattle.commands.specs.declared.show.KeptLine.{KeptLine}

-- the name of a form of `loca`
abbrev pub form_text : LocaForm → List ℕ
form_text Short = codes "short"
form_text Long = codes "long"

-- the line of a table that a cut keeps, where there is one
abbrev pub table_line : Tag → Option (List ℕ) → List ℕ
table_line tag table =
    option_map_or (λ bytes. line (codes "kept " ++ tag_text tag ++ 32 ∷ decimal (length bytes))) table []

-- the same of a line that is to be printed
abbrev pub kept_table_line : KeptLine → List ℕ
kept_table_line kept = table_line kept.tag (option_copied kept.table)

-- the line of a slot
abbrev pub kept_line : List ℕ → ℕ → List ℕ
kept_line file slot = table_line (kept_tag slot) (table_of file (kept_tag slot))

-- a line for each table that a cut keeps, in order of tag
abbrev pub kept_text : List ℕ → List ℕ
kept_text file = flat_map (kept_line file) (range_with_len 0 SLOTS)

-- the line of a table that a cut drops
abbrev pub dropped_line : Entry → List ℕ
dropped_line entry = line (codes "dropped " ++ tag_text entry.tag ++ 32 ∷ decimal entry.length)

-- a line for each table that a cut drops, in the order of the file
abbrev pub dropped_text : List ℕ → List ℕ
dropped_text file = flat_map dropped_line (dropped_of file)

-- the lines of what the tables say
abbrev pub numbers_text : List ℕ → List ℕ
numbers_text file =
    line (codes "glyphs " ++ decimal (glyph_count_of file))
    ++ line (codes "units " ++ decimal (units_per_em_of file))
    ++ line (codes "loca " ++ form_text (loca_form_of file))
    ++ line (codes "metrics " ++ decimal (metric_count_of file))

-- platformID, encodingID and format of the subtable that the mapping is read from
abbrev pub chosen_text : ℕ × ℕ × ℕ → List ℕ
chosen_text chosen =
    line (codes "mapping " ++ decimal chosen.0 ++ 47 ∷ decimal chosen.1 ++ codes " format "
    ++ decimal chosen.2)

-- the lines of the mapping of a `cmap`, which maps this number of codes
abbrev pub mapped_text : List ℕ → ℕ → List ℕ
mapped_text cmap count = chosen_text (chosen_of cmap) ++ line (codes "mapped " ++ decimal count)

-- whether the font is a cut: as it is written, as it was written before, or not
abbrev pub cut_answer : CutForm → List ℕ
cut_answer Current = codes "yes"
cut_answer Old = codes "old"
cut_answer Not = codes "no"

abbrev pub cut_text : CutForm → List ℕ
cut_text form = line (codes "cut " ++ cut_answer form)

-- all lines of a font that maps this number of codes, the last line saying whether it is a cut
unfoldable pub font_text : List ℕ → ℕ → CutForm → List ℕ
font_text file count form =
    numbers_text file ++ mapped_text (cmap_of file) count ++ kept_text file ++ dropped_text file
    ++ cut_text form

-- all that `show` prints of a font that is accepted
unfoldable pub show_text : List ℕ → List ℕ
show_text file =
    font_text file (mapped_codes (mapping_of (cmap_of file) (glyph_count_of file))) (cut_form_of file)
