-- What is not as the standard asks, and is read all the same (OpenType 1.9, Organization of an OpenType
-- Font).
use Rattle.std.specs.Prelude.{ℕ, ◌+◌, ◌-◌, ◌%◌, nat_le, nat_lt, nat_eq, not, Bool, true, false, ◌&&◌, List, [], ◌∷◌}
use Rattle.std.specs.Prelude.{◌++◌, drop, replicate, if◌then◌else◌, Option}
use Rattle.std.specs.List.{flat_map, starts_with}
use Rattle.std.specs.Option.{option_map_or}
use Rattle.sfnt_bytes.specs.Number.{u16_at, u32_at}
use Rattle.sfnt_bytes.specs.Lines.{said_lines, when}
use Rattle.sfnt_bytes.specs.Sums.{adjustment_of, checksum_of, without_field}
use Rattle.sfnt_bytes.specs.SearchFields.{search_fields_of}
use Rattle.sfnt_bytes.specs.Tag.{tag_number}
use Rattle.sfnt_bytes.specs.Directory.{table_count, has_tag, is_within, records_of, table_bytes, table_entry}
use Rattle.sfnt_bytes.specs.declared.records.Entry.{Entry}
use Rattle.sfnt_bytes.specs.declared.tag.TheConstants.{HEAD_TAG}
use Rattle.sfnt_bytes.specs.declared.findings.Finding.{Finding}
use Rattle.sfnt_bytes.specs.declared.findings.Finding.TheVariants.{Unsorted, SearchFields, OutOfFile, Unaligned}
use Rattle.sfnt_bytes.specs.declared.findings.Finding.TheVariants.{Padding, Checksum, FileSum}

-- each tag is below the next one
unfoldable pub is_ascending : List Entry → Bool
is_ascending [] = true
is_ascending (entry ∷ []) = true
is_ascending (entry ∷ next ∷ rest) =
    nat_lt (tag_number entry.tag) (tag_number next.tag) && is_ascending (next ∷ rest)

-- searchRange, entrySelector and rangeShift are those of the number of tables
unfoldable pub has_search_fields : List ℕ → Bool
has_search_fields file =
    option_map_or (λ f. nat_eq (u16_at file 6) f.0 && nat_eq (u16_at file 8) f.1
    && nat_eq (u16_at file 10) f.2) (search_fields_of (table_count file)) false

-- how many bytes fill n bytes to a multiple of 4
abbrev pub padding_of : ℕ → ℕ
padding_of n = (4 - n % 4) % 4

-- right after the table stand the zeros that fill it to a multiple of 4
unfoldable pub is_padded : List ℕ → Entry → Bool
is_padded file entry =
    starts_with nat_eq (drop (entry.offset + entry.length) file) (replicate (padding_of entry.length) 0)

-- the checksum of a record's table: of `head` with checksumAdjustment, where all of it is there, as 0
unfoldable pub table_sum : List ℕ → Entry → ℕ
table_sum file entry = let bytes = table_bytes file entry in
    if has_tag HEAD_TAG entry && nat_le 12 entry.length then checksum_of (without_field bytes 8)
    else checksum_of bytes

-- what is not as asked of a record whose table lies within the file
abbrev pub record_lines : List ℕ → Entry → List (Option Finding)
record_lines file entry =
    when (not (nat_eq (entry.offset % 4) 0)) (Unaligned entry.tag)
    ∷ when (not (is_padded file entry)) (Padding entry.tag)
    ∷ when (not (nat_eq (table_sum file entry) entry.checksum)) (Checksum entry.tag)
    ∷ []

-- the findings of one record
unfoldable pub entry_findings : List ℕ → Entry → List Finding
entry_findings file entry =
    if not (is_within file entry) then OutOfFile entry.tag ∷ [] else said_lines (record_lines file entry)

-- the checksumAdjustment at a place is the one of the file
unfoldable pub has_file_sum : List ℕ → ℕ → Bool
has_file_sum file at = nat_eq (u32_at file at) (adjustment_of (checksum_of (without_field file at)))

-- there is a `head` with all of checksumAdjustment, which is not the one of the file
unfoldable pub has_wrong_file_sum : List ℕ → Bool
has_wrong_file_sum file =
    option_map_or (λ head. nat_le 12 head.length && not (has_file_sum file (head.offset + 8)))
    (table_entry file HEAD_TAG) false

-- there is a checksumAdjustment to be judged at a place, and it is not the one of the file
abbrev pub is_wrong_at : List ℕ → Option ℕ → Bool
is_wrong_at file place = option_map_or (λ at. not (has_file_sum file at)) place false

-- findings before those of some records, theirs, and one after them
abbrev pub findings_left : List ℕ → List Finding → List Entry → Option Finding → List Finding
findings_left file before entries after =
    before ++ flat_map (entry_findings file) entries ++ said_lines (after ∷ [])

-- all findings: of the directory, of each record in order, and of the sum of the file
unfoldable pub findings_of : List ℕ → List Finding
findings_of file = findings_left file
    (said_lines (when (not (is_ascending (records_of file))) Unsorted
    ∷ when (not (has_search_fields file)) SearchFields ∷ []))
    (records_of file)
    (when (has_wrong_file_sum file) FileSum)
