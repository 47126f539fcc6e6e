-- The texts of tags and findings, and the texts and numbers of refusals, this project's own.
use Rattle.std.specs.Prelude.{ℕ, ◌/◌, ◌%◌, nat_le, Bool, ◌&&◌, List, [], ◌∷◌, ◌++◌, if◌then◌else◌, codes}
use Rattle.std.specs.List.{flat_map, list_all}
use Rattle.std.specs.Char.{digit_char}
use Rattle.sfnt_bytes.specs.declared.tag.Tag.{Tag}
use Rattle.sfnt_bytes.specs.declared.findings.Finding.{Finding}
use Rattle.sfnt_bytes.specs.declared.findings.Finding.TheVariants.{Unsorted, SearchFields, OutOfFile, Unaligned}
use Rattle.sfnt_bytes.specs.declared.findings.Finding.TheVariants.{Padding, Checksum, FileSum}
use Rattle.sfnt_bytes.specs.declared.directory.DirError.{DirError}
use Rattle.sfnt_bytes.specs.declared.directory.DirError.TheVariants.{FileTooLarge, Truncated, Collection, NotTrueType}
use Rattle.sfnt_bytes.specs.declared.directory.DirError.TheVariants.{DuplicateTable, TableOutOfFile}

-- printable ASCII
abbrev pub is_printable : ℕ → Bool
is_printable byte = nat_le 0x20 byte && nat_le byte 0x7E

-- two lower-case hexadecimal digits
abbrev pub hex_byte : ℕ → List ℕ
hex_byte byte = digit_char (byte / 16) ∷ digit_char (byte % 16) ∷ []

-- `0x` and the digits of the bytes
unfoldable pub hex_text : List ℕ → List ℕ
hex_text bytes = codes "0x" ++ flat_map hex_byte bytes

-- the four bytes as they stand, or in hexadecimal where one of them is not printable
unfoldable pub tag_text : Tag → List ℕ
tag_text tag = if list_all is_printable tag.0 then tag.0 else hex_text tag.0

-- the text of a finding
abbrev pub finding_text : Finding → List ℕ
finding_text Unsorted = codes "unsorted"
finding_text SearchFields = codes "search fields"
finding_text (OutOfFile tag) = codes "out of file " ++ tag_text tag
finding_text (Unaligned tag) = codes "unaligned " ++ tag_text tag
finding_text (Padding tag) = codes "padding " ++ tag_text tag
finding_text (Checksum tag) = codes "checksum " ++ tag_text tag
finding_text FileSum = codes "file sum"

-- the text of a refusal of a directory
abbrev pub error_text : DirError → List ℕ
error_text FileTooLarge = codes "file too large"
error_text Truncated = codes "truncated"
error_text Collection = codes "collection"
error_text NotTrueType = codes "not TrueType"
error_text (DuplicateTable tag) = codes "duplicate table " ++ tag_text tag
error_text (TableOutOfFile tag) = codes "table out of file " ++ tag_text tag

-- its number
abbrev pub error_number : DirError → ℕ
error_number FileTooLarge = 1
error_number Truncated = 2
error_number Collection = 3
error_number NotTrueType = 4
error_number (DuplicateTable tag) = 5
error_number (TableOutOfFile tag) = 6

-- the text if out of memory
abbrev pub no_memory_text : List ℕ
no_memory_text = codes "no memory"
