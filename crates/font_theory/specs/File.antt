-- The one file of a content (OpenType 1.9, Organization of an OpenType Font; cmap, Encoding records and encodings,
-- Format 12, Format 14; loca; glyf).
use Rattle.std.specs.Prelude.{◌≡◌, ℕ, ◌+◌, ◌*◌, nat_eq, List, [], ◌∷◌, ◌++◌, length, map, replicate, if◌then◌else◌}
use Rattle.std.specs.Prelude.{Option, None, Some, sum}
use Rattle.std.specs.List.{concat, flat_map, range_with_len}
use Rattle.std.specs.Option.{option_map, option_map_or}
use Rattle.sfnt_bytes.specs.Directory.{slot_at, slot_tag}
use Rattle.sfnt_bytes.specs.Lines.{said_lines}
use Rattle.sfnt_bytes.specs.SearchFields.{search_fields_of}
use Rattle.sfnt_bytes.specs.Sums.{adjustment_of, checksum_of, without_field}
use Rattle.sfnt_bytes.specs.declared.records.Entry.{Entry}
use Rattle.sfnt_bytes.specs.declared.tag.Tag.{Tag}
use Rattle.sfnt_bytes.specs.declared.tag.TheConstants.{ALL_SLOTS, CMAP, GLYF, HEAD, LOCA}
use Rattle.codes.specs.CharacterMap.{clipped}
use Rattle.font_map.specs.Mapping.{mapping_of}
use Rattle.font_map.specs.Refusals.{map_fault}
use Rattle.codes.specs.Runs.{groups_from, spelled}
use Rattle.codes.specs.declared.runs.Run.{Run}
use Rattle.font_glyph.specs.RecordMap.{record_in}
use Rattle.font_theory.specs.Bytes.{bytes16, bytes32, padded, with_adjustment}
use Rattle.font_theory.specs.Content.{Content, glyph_count, table_in_slot}
use Rattle.font_theory.specs.declared.Profile.{Profile}
use Rattle.font_theory.specs.declared.Profile.TheVariants.{First, Second}
use Rattle.font_theory.specs.declared.kinds.TheConstants.{SEQUENCES}
use Rattle.variation_sequences.specs.Encoding.{subtable_of}

-- the groups that spell the map of a content
unfoldable pub groups_of_content : Content → List Run
groups_of_content K = groups_from K.map 0

-- the outlines of n glyphs from a given one on, [] for one that is not kept
abbrev pub outlines_from : Content → ℕ → ℕ → List (List ℕ)
outlines_from K g n = map (record_in K.outline) (range_with_len g n)

-- the outlines of all glyphs, in order
unfoldable pub outlines_of : Content → List (List ℕ)
outlines_of K = outlines_from K 0 (glyph_count K.copied)

-- the offsets of outlines that stand end to end, the first at a given offset, and that of their end
abbrev pub offsets_from : ℕ → List (List ℕ) → List ℕ
offsets_from at [] = at ∷ []
offsets_from at (outline ∷ outlines) = at ∷ offsets_from (at + length outline) outlines

-- `loca`, in its long form
unfoldable pub loca_bytes : List (List ℕ) → List ℕ
loca_bytes outlines = flat_map bytes32 (offsets_from 0 outlines)

-- startCharCode, endCharCode and startGlyphID of a group
abbrev pub numbers_of : Run → List ℕ
numbers_of run = run.first ∷ run.last ∷ run.glyph ∷ []

abbrev pub group_bytes : Run → List ℕ
group_bytes run = bytes32 run.first ++ (bytes32 run.last ++ bytes32 run.glyph)

-- a subtable of format 12 up to its n groups, word by word: format and reserved, length, language and
-- numGroups
abbrev pub subtable_front : ℕ → List ℕ
subtable_front n = 0x000C0000 ∷ (16 + 12 * n) ∷ 0 ∷ n ∷ []

-- what a profile settles
pub record Writing : Type 0 where
  pub front : ℕ → List ℕ  -- `cmap` up to its n groups, word by word
  pub zeros : ℕ → ℕ  -- how many zeros stand in `glyf` after outlines of n bytes

-- the first profile. `cmap`: version 0, and one record, 3/10, of a subtable right after it
unfoldable pub first_writing : Writing
first_writing = record {
  front = λ n. 0x00000001 ∷ 0x0003000A ∷ 12 ∷ subtable_front n;
  zeros = λ _. 0;
}

-- the second profile. `cmap`: two records, 0/4 and 3/10, of one subtable right after them. `glyf` is never
-- empty
unfoldable pub second_writing : Writing
second_writing = record {
  front = λ n. 0x00000002 ∷ 0x00000004 ∷ 20 ∷ 0x0003000A ∷ 20 ∷ subtable_front n;
  zeros = λ n. if nat_eq n 0 then 4 else 0;
}

-- the form of a profile
unfoldable pub writing_of : Profile → Writing
writing_of First = first_writing
writing_of Second = second_writing

-- what this program writes
abbrev pub current_profile : Profile
current_profile = Second

abbrev pub current_writing : Writing
current_writing = writing_of current_profile

-- `cmap` up to its n groups
unfoldable pub cmap_front : Writing → ℕ → List ℕ
cmap_front writing n = flat_map bytes32 (writing.front n)

-- `cmap` without variation sequences
unfoldable pub cmap_bytes : Writing → List Run → List ℕ
cmap_bytes writing runs = cmap_front writing (length runs) ++ flat_map group_bytes runs

-- `cmap` with them up to its n groups, word by word, in any form: version 0 and three records, 0/4 and 3/10 of one
-- subtable right after them, 0/5 of the bytes right after its groups
unfoldable pub sequence_front : ℕ → List ℕ
sequence_front n =
    0x00000003 ∷ 0x00000004 ∷ 28 ∷ 0x00000005 ∷ (44 + 12 * n) ∷ 0x0003000A ∷ 28 ∷ subtable_front n

-- `cmap` of three records, with bytes after its groups
unfoldable pub cmap_of_three : List Run → List ℕ → List ℕ
cmap_of_three runs t = flat_map bytes32 (sequence_front (length runs)) ++ flat_map group_bytes runs ++ t

-- `cmap` with a table of variation sequences, which has no byte where there are none
unfoldable pub cmap_with_sequences : Writing → List Run → List ℕ → List ℕ
cmap_with_sequences writing runs t = if nat_eq (length t) 0 then cmap_bytes writing runs else cmap_of_three runs t

-- the `cmap` of a content
abbrev pub cmap_of_content : Writing → Content → List ℕ
cmap_of_content writing K = cmap_with_sequences writing (groups_of_content K) (table_in_slot K.copied SEQUENCES)

-- what stands in `glyf` after outlines
abbrev pub behind : Writing → List ℕ → List ℕ
behind writing outlines = replicate (writing.zeros (length outlines)) 0

-- `glyf`: the outlines end to end
abbrev pub glyf_bytes : Writing → List (List ℕ) → List ℕ
glyf_bytes writing outlines = concat outlines ++ behind writing (concat outlines)

-- what is asked of a form: its `cmap` is accepted, maps by its groups, and has no variation sequences
pub record IsWriting (writing : Writing) : Type 0 where
  pub accepted : (runs : List Run) → map_fault (cmap_bytes writing runs) ≡ None
  pub maps :
      (runs : List Run) (glyphs : ℕ) →
      mapping_of (cmap_bytes writing runs) glyphs ≡ clipped glyphs (spelled runs)
  pub unsequenced : (runs : List Run) → subtable_of (cmap_bytes writing runs) ≡ None

-- a table that is written
pub record Table : Type 0 where
  pub tag : Tag
  pub checksum : ℕ
  pub bytes : List ℕ

-- the bytes of the table in a slot, with this `head`
unfoldable pub bytes_in_slot : Writing → Content → List ℕ → ℕ → Option (List ℕ)
bytes_in_slot writing K head slot =
    if nat_eq slot CMAP then Some (cmap_of_content writing K)
    else if nat_eq slot GLYF then Some (glyf_bytes writing (outlines_of K))
    else if nat_eq slot HEAD then Some head
    else if nat_eq slot LOCA then Some (loca_bytes (outlines_of K))
    else K.copied slot

-- the checksum of the table in a slot: that of `head` is taken with checksumAdjustment 0
abbrev pub checksum_in_slot : ℕ → List ℕ → ℕ
checksum_in_slot slot bytes =
    if nat_eq slot HEAD then checksum_of (without_field bytes 8) else checksum_of bytes

-- the table in a slot, where there is one
abbrev pub table_in : Writing → Content → List ℕ → ℕ → Option Table
table_in writing K head slot =
    option_map (λ bytes. record {
      tag = slot_tag slot;
      checksum = checksum_in_slot slot bytes;
      bytes = bytes;
    }) (bytes_in_slot writing K head slot)

-- the table at a place, in order of tag, where there is one
abbrev pub table_at_place : Writing → Content → List ℕ → ℕ → Option Table
table_at_place writing K head place = table_in writing K head (slot_at place)

-- the tables at n places from a given one on
abbrev pub tables_from : Writing → Content → List ℕ → ℕ → ℕ → List Table
tables_from writing K head place n = said_lines (map (table_at_place writing K head) (range_with_len place n))

-- the records of tables that stand end to end from an offset on, each padded
abbrev pub entries_at : ℕ → List Table → List Entry
entries_at at [] = []
entries_at at (table ∷ tables) =
    record { tag = table.tag; checksum = table.checksum; offset = at; length = length table.bytes }
    ∷ entries_at (at + length (padded table.bytes)) tables

-- tableTag, checksum, offset and length of a record
abbrev pub entry_bytes : Entry → List ℕ
entry_bytes entry = entry.tag.0 ++ (bytes32 entry.checksum ++ (bytes32 entry.offset ++ bytes32 entry.length))

-- searchRange, entrySelector and rangeShift for n tables
abbrev pub search_bytes : ℕ → List ℕ
search_bytes n =
    option_map_or (λ fields. bytes16 fields.0 ++ (bytes16 fields.1 ++ bytes16 fields.2)) (search_fields_of n)
    []

-- sfntVersion 1.0, numTables and the search fields
unfoldable pub header_bytes : ℕ → List ℕ
header_bytes n = bytes32 0x00010000 ++ (bytes16 n ++ search_bytes n)

-- the bytes of tables, each padded
abbrev pub bodies_of : List Table → List ℕ
bodies_of tables = flat_map (λ table. padded table.bytes) tables

-- a file of tables: header, records and bodies
unfoldable pub file_of : List Table → List ℕ
file_of tables =
    header_bytes (length tables)
    ++ (flat_map entry_bytes (entries_at (12 + 16 * length tables) tables) ++ bodies_of tables)

-- the file of a content with this `head`
abbrev pub file_with : Writing → Content → List ℕ → List ℕ
file_with writing K head = file_of (tables_from writing K head 0 ALL_SLOTS)

-- checksumAdjustment of its file, which is summed with that field 0
unfoldable pub adjustment_in : Writing → Content → ℕ
adjustment_in writing K = adjustment_of (checksum_of (file_with writing K K.head))

-- the file of a content
unfoldable pub file : Writing → Content → List ℕ
file writing K = file_with writing K (with_adjustment (adjustment_in writing K) K.head)

-- the length of the table in a slot, padded
abbrev pub padded_length : Option (List ℕ) → ℕ
padded_length bytes = option_map_or (λ b. length (padded b)) bytes 0

-- the length of the file of a content, with these lengths of its `cmap` and of its `glyf`, padded: 12 bytes
-- and a record for each of k tables; `loca`; and the other tables, padded
abbrev pub size_with : Content → ℕ → ℕ → ℕ
size_with K cmap glyf =
    let k = 4 + length (said_lines (map K.copied (range_with_len 0 ALL_SLOTS))) in
    12 + 16 * k + cmap + glyf + 4 * (glyph_count K.copied + 1)
    + length (padded K.head) + sum (map (λ slot. padded_length (K.copied slot)) (range_with_len 0 ALL_SLOTS))

-- that with the `cmap` and the `glyf` of a form
unfoldable pub size_of : Writing → Content → ℕ
size_of writing K =
    size_with K (length (padded (cmap_of_content writing K))) (length (padded (glyf_bytes writing (outlines_of K))))
