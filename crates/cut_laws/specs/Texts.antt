-- How long the texts of refusals are, this project's own: a law, the contract of a function.
use Rattle.std.specs.Prelude.{◌≡◌, ◌<◌, ◌≤◌, ◌^◌, length}
use Rattle.sfnt_bytes.specs.declared.directory.DirError.{DirError}
use Rattle.sfnt_bytes.specs.declared.directory.DirError.TheVariants.{DuplicateTable, TableOutOfFile}
use Rattle.sfnt_bytes.specs.declared.tag.Tag.{Tag}
use Rattle.font_tables.specs.declared.tables.TableError.{TableError}
use Rattle.font_tables.specs.declared.tables.TableError.TheVariants.{BadLoca, MissingTable}
use Rattle.codes.specs.Text.{wanted_error_text}
use Rattle.codes.specs.declared.wanted.WantedError.{WantedError}
use Rattle.font_file.specs.Text.{font_error_text}
use Rattle.font_file.specs.declared.font_error.FontError.{FontError}
use Rattle.font_file.specs.declared.font_error.FontError.TheVariants.{BadGlyph, Directory, Tables}
use Rattle.font_join.specs.JoinText.{join_all_error_text}
use Rattle.font_join.specs.declared.join_error.JoinAllError.{JoinAllError}
use Rattle.font_join.specs.declared.join_error.JoinAllError.TheVariants.{At, NothingToJoin}
use Rattle.font_join.specs.declared.join_error.JoinError.{JoinError}
use Rattle.font_join.specs.declared.join_error.JoinError.TheVariants as joins

-- a tag has four bytes
abbrev pub IsTag : Tag → Type 0
IsTag tag = length tag.0 ≡ 4

-- what a refusal of a directory names is a tag
abbrev pub NamesInDirectory : DirError → Type 0
NamesInDirectory (DuplicateTable tag) = IsTag tag
NamesInDirectory (TableOutOfFile tag) = IsTag tag
NamesInDirectory _ = Unit {0}

-- what one of tables names is a tag, or an index of 64 bits
abbrev pub NamesInTables : TableError → Type 0
NamesInTables (MissingTable tag) = IsTag tag
NamesInTables (BadLoca j) = j < 2 ^ 64
NamesInTables _ = Unit {0}

-- so it is with one of a font
abbrev pub NamesInFont : FontError → Type 0
NamesInFont (Directory error) = NamesInDirectory error
NamesInFont (Tables error) = NamesInTables error
NamesInFont (BadGlyph g) = g < 2 ^ 64
NamesInFont _ = Unit {0}

-- one of a join names besides a code of 32 bits, or a size of 64
abbrev pub NamesInJoin : JoinError → Type 0
NamesInJoin (joins.Font which error) = NamesInFont error
NamesInJoin (joins.DifferentTable tag) = IsTag tag
NamesInJoin (joins.DifferentMapping code) = code < 2 ^ 32
NamesInJoin (joins.DifferentGlyph g) = g < 2 ^ 64
NamesInJoin (joins.TableTooLong tag) = IsTag tag
NamesInJoin (joins.TooLarge size) = size < 2 ^ 64
NamesInJoin _ = Unit {0}

-- and so one of a list of files
abbrev pub NamesInList : JoinAllError → Type 0
NamesInList NothingToJoin = Unit {0}
NamesInList (At step error) = NamesInJoin error

-- the text of a refusal, of a font, of files and of codes, has at most 64 bytes
abbrev pub TextsAreShort : Type 0
TextsAreShort =
    ((error : FontError) → NamesInFont error → length (font_error_text error) ≤ 64)
    × ((error : JoinAllError) → NamesInList error → length (join_all_error_text error) ≤ 64)
    × ((error : WantedError) → length (wanted_error_text error) ≤ 64)
