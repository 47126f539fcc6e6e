-- The texts and numbers of what refuses a join, this project's own.
use Rattle.std.specs.Prelude.{ℕ, nat_lt, true, List, ◌++◌, codes, decimal, if◌then◌else◌}
use Rattle.std.specs.Fmt.{digits}
use Rattle.sfnt_bytes.specs.Text.{no_memory_text, tag_text}
use Rattle.sfnt_bytes.specs.declared.numbers.TheConstants as numbers
use Rattle.font_file.specs.Text as font
use Rattle.font_join.specs.declared.join_error.JoinAllError.{JoinAllError}
use Rattle.font_join.specs.declared.join_error.JoinAllError.TheVariants.{At, NothingToJoin}
use Rattle.font_join.specs.declared.join_error.JoinAllIntoError.{JoinAllIntoError}
use Rattle.font_join.specs.declared.join_error.JoinAllIntoError.TheVariants.{NotJoined, WriteFault}
use Rattle.font_join.specs.declared.join_error.JoinError.{JoinError}
use Rattle.font_join.specs.declared.join_error.JoinError.TheVariants.{DifferentGlyph, DifferentMapping, DifferentTable}
use Rattle.font_join.specs.declared.join_error.JoinError.TheVariants.{Font, NoMemory, NotACut, TableTooLong, TooLarge}
use Rattle.font_join.specs.declared.join_error.Which.{Which}
use Rattle.font_join.specs.declared.join_error.Which.TheVariants.{First, Second}

-- the word for one of two files
abbrev pub which_text : Which → List ℕ
which_text First = codes "first"
which_text Second = codes "second"

-- a code in four upper-case hexadecimal digits or more
abbrev pub code_text : ℕ → List ℕ
code_text code =
    if nat_lt code 0x10 then codes "000" ++ digits 16 true code
    else (if nat_lt code 0x100 then codes "00" ++ digits 16 true code
    else (if nat_lt code 0x1000 then codes "0" ++ digits 16 true code
    else digits 16 true code))

-- the text of a refusal of a join
abbrev pub join_error_text : JoinError → List ℕ
join_error_text (Font which error) = font.font_error_text error
join_error_text (NotACut which) = codes "not a cut: " ++ which_text which
join_error_text (DifferentTable tag) = codes "different table " ++ tag_text tag
join_error_text (DifferentMapping code) = codes "different mapping U+" ++ code_text code
join_error_text (DifferentGlyph g) = codes "different glyph " ++ decimal g
join_error_text (TableTooLong tag) = codes "table too long " ++ tag_text tag
join_error_text (TooLarge size) = codes "too large " ++ decimal size
join_error_text NoMemory = no_memory_text

-- and of a list of files
abbrev pub join_all_error_text : JoinAllError → List ℕ
join_all_error_text NothingToJoin = codes "nothing to join"
join_all_error_text (At step error) = join_error_text error

-- the number of a refusal of a join
abbrev pub join_error_number : JoinError → ℕ
join_error_number (Font which error) = font.font_error_number error
join_error_number (NotACut which) = 20
join_error_number (DifferentTable tag) = 21
join_error_number (DifferentMapping code) = 22
join_error_number (DifferentGlyph g) = 23
join_error_number (TableTooLong tag) = 29
join_error_number (TooLarge size) = numbers.TOO_LARGE
join_error_number NoMemory = numbers.NO_MEMORY

-- and of a list of files
abbrev pub join_all_error_number : JoinAllError → ℕ
join_all_error_number NothingToJoin = 24
join_all_error_number (At step error) = join_error_number error

-- and of one that is sent
abbrev pub join_all_into_error_number : JoinAllIntoError → ℕ
join_all_into_error_number (NotJoined error) = join_all_error_number error
join_all_into_error_number (WriteFault written) = numbers.WRITE_FAULT
