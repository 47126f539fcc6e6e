-- What `codes` prints of a font, this project's own: the mapped codes, as words that `subset` reads.
use Rattle.std.specs.Prelude.{◌≡◌, ℕ, ◌+◌, nat_eq, List, [], ◌∷◌, All, if◌then◌else◌}
use Rattle.std.specs.List.{flat_map}
use Rattle.codes.specs.CharacterMap.{is_mapped}
use Rattle.codes.specs.Runs.{groups_from}
use Rattle.codes.specs.Wanted.{AreSeparate, IsBadRange, member}
use Rattle.codes.specs.Word.{IsWord, range_word}
use Rattle.codes.specs.declared.code_range.CodeRange.{CodeRange}
use Rattle.codes.specs.declared.runs.Run.{Run}
use Rattle.font_file.specs.Font.{cmap_of}
use Rattle.font_tables.specs.Fields.{glyph_count_of}
use Rattle.font_map.specs.Mapping.{mapping_of}
use Rattle.commands.specs.Check.{line}

-- the codes of a run
abbrev pub range_of_run : Run → CodeRange
range_of_run run = record { first = run.first; last = run.last }

-- a range, and the ranges of the runs after it: a run that begins at the code after its last goes on with it
abbrev pub ranges_on : CodeRange → List Run → List CodeRange
ranges_on range [] = range ∷ []
ranges_on range (run ∷ runs) =
    if nat_eq run.first (range.last + 1)
    then ranges_on (record { first = range.first; last = run.last }) runs
    else range ∷ ranges_on (range_of_run run) runs

-- the ranges of runs
abbrev pub ranges_of : List Run → List CodeRange
ranges_of [] = []
ranges_of (run ∷ runs) = ranges_on (range_of_run run) runs

-- the ranges of the mapped codes from a given one on
unfoldable pub code_ranges : (ℕ → ℕ) → ℕ → List CodeRange
code_ranges m from = ranges_of (groups_from m from)

-- the line of a range
abbrev pub range_line : CodeRange → List ℕ
range_line range = line (range_word range)

-- the lines of the mapped codes of a map
unfoldable pub code_lines : (ℕ → ℕ) → List ℕ
code_lines m = flat_map range_line (code_ranges m 0)

-- all that `codes` prints of a font that is accepted
unfoldable pub codes_text : List ℕ → List ℕ
codes_text file = code_lines (mapping_of (cmap_of file) (glyph_count_of file))

-- a word names the codes of a range, and these are code points
pub record IsReadBack (range : CodeRange) : Type 0 where
  pub word : IsWord (range_word range) range.first range.last
  pub good : IsBadRange range.first range.last → ⊥

-- the ranges of a map ascend with a code that is not mapped between each two, have the mapped codes and no
-- others, and are read back
pub record CodesLaws (m : ℕ → ℕ) : Type 0 where
  pub separate : AreSeparate 0 (code_ranges m 0)
  pub exact : (c : ℕ) → member (code_ranges m 0) c ≡ is_mapped m c
  pub words : All IsReadBack (code_ranges m 0)
