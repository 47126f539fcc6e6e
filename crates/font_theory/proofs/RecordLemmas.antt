-- The header and the records of a file of tables are read back.
use Rattle.std.proofs.Common.{◌≡◌, ℕ, suc, ◌+◌, ◌-◌, ◌*◌, ◌^◌, ◌<◌, ◌≤◌, false, nat_eq, nat_lt, List, [], ◌∷◌, ◌++◌}
use Rattle.std.proofs.Common.{get_or, drop, length, refl, sym, ap, ◌∙◌, arith, Option, Some, flat_map}
use Rattle.std.specs.Option.{option_map_or}
use Rattle.std.proofs.lemmas.Bool.{le-ltb, ne_eqb}
use Rattle.std.proofs.lemmas.List.{append_assoc, drop-drop, drop_at, get_or-drop, get_or_append_left, length-append}
use Rattle.sfnt_bytes.specs.Directory.{entries_from, entry_at, records_of, table_count, tag_at}
use Rattle.sfnt_bytes.specs.Number.{u16_at, u32_at}
use Rattle.sfnt_bytes.specs.SearchFields.{exponent, search_fields_of}
use Rattle.sfnt_bytes.specs.declared.records.Entry.{Entry}
use Rattle.sfnt_bytes.specs.declared.tag.Tag.{Tag}
use Rattle.font_theory.specs.Bytes.{bytes16, bytes32, padded}
use Rattle.font_theory.specs.File.{Table, bodies_of, entries_at, entry_bytes, file_of, header_bytes}
use Rattle.font_variations.proofs.NumberLemmas.{half_is, u32_at-bytes, u32_at-drop}

-- each member has it
abbrev pub Each : {X : Type 0} → (X → Type 0) → List X → Type 0
Each P [] = Unit {0}
Each P (x ∷ xs) = P x × Each P xs

-- searchRange, entrySelector and rangeShift, where they are numbers of 16 bits
abbrev pub fields_for : ℕ → ℕ × ℕ × ℕ
fields_for n = (16 * 2 ^ exponent 11 n, exponent 11 n, 16 * n - 16 * 2 ^ exponent 11 n)

pub search_fields_of-some : (n : ℕ) → 1 ≤ n → n ≤ 4095 → search_fields_of n ≡ Some (fields_for n)
unfolding search_fields_of
search_fields_of-some n some few =
    let first : nat_eq n 0 ≡ false = ne_eqb n 0 (λ e. omega arith) in
    let second : nat_lt 4095 n ≡ false = le-ltb 4095 n few in
    rw (first, second) refl

pub header_is : (n : ℕ) → 1 ≤ n → n ≤ 4095 → header_bytes n ≡ bytes32 0x00010000
    ++ (bytes16 n ++ (bytes16 (fields_for n).0 ++ (bytes16 (fields_for n).1 ++ bytes16 (fields_for n).2)))
unfolding header_bytes
header_is n some few =
    ap (λ (o : Option (ℕ × ℕ × ℕ)). bytes32 0x00010000
    ++ (bytes16 n ++ option_map_or (λ fields. bytes16 fields.0 ++ (bytes16 fields.1 ++ bytes16 fields.2)) o []))
    (search_fields_of-some n some few)

pub length-header_bytes : (n : ℕ) → 1 ≤ n → n ≤ 4095 → length (header_bytes n) ≡ 12
length-header_bytes n some few = ap (λ (b : List ℕ). length b) (header_is n some few)

-- a tag has four bytes
abbrev pub HasFour : Tag → Type 0
HasFour tag = length tag.0 ≡ 4

four_bytes : (l : List ℕ) → length l ≡ 4 → get_or l 0 0 ∷ get_or l 1 0 ∷ get_or l 2 0 ∷ get_or l 3 0 ∷ [] ≡ l
four_bytes [] h = absurd (omega arith)
four_bytes (a ∷ []) h = absurd (omega arith)
four_bytes (a ∷ b ∷ []) h = absurd (omega arith)
four_bytes (a ∷ b ∷ c ∷ []) h = absurd (omega arith)
four_bytes (a ∷ b ∷ c ∷ d ∷ []) h = refl
four_bytes (a ∷ b ∷ c ∷ d ∷ e ∷ l) h = absurd (omega arith)

-- the tag that bytes begin with
tag_read : (tag : Tag) (z file : List ℕ) (at : ℕ) → HasFour tag → drop at file ≡ tag.0 ++ z → tag_at file at ≡ tag
unfolding tag_at
tag_read tag z file at four is =
    let same : (j : ℕ) → j < 4 → get_or file (at + j) 0 ≡ get_or tag.0 j 0 =
    λ j low. sym (get_or-drop at file j 0) ∙ ap (λ (b : List ℕ). get_or b j 0) is
    ∙ get_or_append_left tag.0 z 0 j (omega arith) in
    let here : at ≡ at + 0 = omega arith in
    let first : get_or file at 0 ≡ get_or tag.0 0 0 = ap (λ (n : ℕ). get_or file n 0) here ∙ same 0 (omega arith) in
    let second = same 1 (omega arith) in
    let third = same 2 (omega arith) in
    let fourth = same 3 (omega arith) in
    let cells : get_or file at 0 ∷ get_or file (at + 1) 0 ∷ get_or file (at + 2) 0 ∷ get_or file (at + 3) 0
    ∷ [] ≡ tag.0 =
    (λ i. first i ∷ second i ∷ third i ∷ fourth i ∷ []) ∙ four_bytes tag.0 four in
    λ i. record { 0 = cells i }

second32 : (a b c : ℕ) (z : List ℕ) → u32_at ((bytes32 a ++ (bytes32 b ++ bytes32 c)) ++ z) 4 ≡ b
unfolding u32_at
second32 a b c z = omega arith

third32 : (a b c : ℕ) (z : List ℕ) → u32_at ((bytes32 a ++ (bytes32 b ++ bytes32 c)) ++ z) 8 ≡ c
unfolding u32_at
third32 a b c z = omega arith

-- a record is read where the bytes from its place on begin with it
entry_read : (entry : Entry) (z file : List ℕ) (k : ℕ) → HasFour entry.tag → drop (12 + 16 * k) file ≡ entry_bytes entry
    ++ z → entry_at file k ≡ entry
unfolding entry_at
entry_read entry z file k four is =
    let at = 12 + 16 * k in
    let rest : List ℕ = (bytes32 entry.checksum ++ (bytes32 entry.offset ++ bytes32 entry.length)) ++ z in
    let split : drop at file ≡ entry.tag.0 ++ rest =
    is ∙ append_assoc entry.tag.0 (bytes32 entry.checksum ++ (bytes32 entry.offset ++ bytes32 entry.length)) z in
    let behind : drop (at + 4) file ≡ rest = sym (drop-drop 4 at file) ∙ ap (drop 4) split
    ∙ drop_at entry.tag.0 rest 4 four in
    let tag = tag_read entry.tag rest file at four split in
    let read : (j place : ℕ) → place ≡ at + 4 + j → u32_at file place ≡ u32_at rest j =
    λ j place e. ap (u32_at file) e ∙ sym (u32_at-drop (at + 4) j file) ∙ ap (λ (b : List ℕ). u32_at b j) behind in
    let first = read 0 (at + 4) (omega arith)
    ∙ u32_at-bytes entry.checksum ((bytes32 entry.offset ++ bytes32 entry.length) ++ z) in
    let second = read 4 (at + 8) (omega arith) ∙ second32 entry.checksum entry.offset entry.length z in
    let third = read 8 (at + 12) (omega arith) ∙ third32 entry.checksum entry.offset entry.length z in
    λ i. record { tag = tag i; checksum = first i; offset = second i; length = third i }

length-entry_bytes : (entry : Entry) → HasFour entry.tag → length (entry_bytes entry) ≡ 16
length-entry_bytes entry four =
    omega (arith, length-append entry.tag.0 (bytes32 entry.checksum ++ (bytes32 entry.offset ++ bytes32 entry.length)))

pub length-entries_bytes : (entries : List Entry) → Each (λ entry. HasFour entry.tag) entries
    → length (flat_map entry_bytes entries) ≡ 16 * length entries
length-entries_bytes [] four = refl
length-entries_bytes (entry ∷ entries) four =
    omega (
      arith,
      length-append (entry_bytes entry) (flat_map entry_bytes entries),
      length-entry_bytes entry four.0,
      length-entries_bytes entries four.1,
    )

entries_read : (entries : List Entry) (z file : List ℕ) (k : ℕ) → Each (λ entry. HasFour entry.tag) entries
    → drop (12 + 16 * k) file ≡ flat_map entry_bytes entries ++ z → entries_from file k (length entries) ≡ entries
entries_read [] z file k four is = refl
entries_read (entry ∷ entries) z file k four is =
    let rest : List ℕ = flat_map entry_bytes entries ++ z in
    let split : drop (12 + 16 * k) file ≡ entry_bytes entry ++ rest =
    is ∙ append_assoc (entry_bytes entry) (flat_map entry_bytes entries) z in
    let place : 12 + 16 * (k + 1) ≡ 12 + 16 * k + 16 = omega arith in
    let next : drop (12 + 16 * (k + 1)) file ≡ rest =
    ap (λ (n : ℕ). drop n file) place ∙ sym (drop-drop 16 (12 + 16 * k) file) ∙ ap (drop 16) split
    ∙ drop_at (entry_bytes entry) rest 16 (length-entry_bytes entry four.0) in
    λ i. entry_read entry rest file k four.0 split i ∷ entries_read entries z file (k + 1) four.1 next i

-- tables of which a directory can be written
pub record AreTables (tables : List Table) : Type 0 where
  pub some : 1 ≤ length tables
  pub few : length tables ≤ 4095
  pub tags : Each (λ table. HasFour table.tag) tables

pub length-entries_at : (at : ℕ) (tables : List Table) → length (entries_at at tables) ≡ length tables
length-entries_at at [] = refl
length-entries_at at (table ∷ tables) = ap suc (length-entries_at (at + length (padded table.bytes)) tables)

pub tags-entries_at : (at : ℕ) (tables : List Table) → Each (λ table. HasFour table.tag) tables
    → Each (λ entry. HasFour entry.tag) (entries_at at tables)
tags-entries_at at [] four = tt
tags-entries_at at (table ∷ tables) four = (four.0, tags-entries_at (at + length (padded table.bytes)) tables four.1)

module _ (tables : List Table) (ok : AreTables tables) where
  -- where the first table begins
  abbrev pub bodies_at : ℕ
  bodies_at = 12 + 16 * length tables

  -- what stands before the bodies
  abbrev pub front_of : List ℕ
  front_of = header_bytes (length tables) ++ flat_map entry_bytes (entries_at bodies_at tables)

  pub file_of-is : file_of tables ≡ front_of ++ bodies_of tables
  unfolding file_of
  file_of-is = sym (append_assoc (header_bytes (length tables)) (flat_map entry_bytes (entries_at bodies_at tables))
      (bodies_of tables))

  pub length-front_of : length front_of ≡ bodies_at
  length-front_of =
      omega (
        arith,
        length-append (header_bytes (length tables)) (flat_map entry_bytes (entries_at bodies_at tables)),
        length-header_bytes (length tables) ok.some ok.few,
        length-entries_bytes (entries_at bodies_at tables) (tags-entries_at bodies_at tables ok.tags),
        length-entries_at bodies_at tables,
      )

  pub length-file_of : length (file_of tables) ≡ 12 + 16 * length tables + length (bodies_of tables)
  length-file_of = ap (λ (b : List ℕ). length b) file_of-is ∙ length-append front_of (bodies_of tables)
      ∙ ap (λ (n : ℕ). n + length (bodies_of tables)) length-front_of

  -- the header's cells, before all else
  abbrev behind_header : List ℕ
  behind_header = flat_map entry_bytes (entries_at bodies_at tables) ++ bodies_of tables

  header_of : file_of tables
      ≡ (bytes32 0x00010000
      ++ (bytes16 (length tables) ++ (bytes16 (fields_for (length tables)).0 ++ (bytes16 (fields_for (length tables)).1
      ++ bytes16 (fields_for (length tables)).2)))) ++ behind_header
  unfolding file_of
  header_of = ap (λ (b : List ℕ). b ++ behind_header) (header_is (length tables) ok.some ok.few)

  pub version-file_of : u32_at (file_of tables) 0 ≡ 0x00010000
  version-file_of = ap (λ (b : List ℕ). u32_at b 0) header_of ∙ u32_at-bytes 0x00010000 _

  pub table_count-file_of : table_count (file_of tables) ≡ length tables
  unfolding u16_at
  table_count-file_of = ap (λ (b : List ℕ). u16_at b 4) header_of ∙ half_is (length tables)

  pub search_range-file_of : u16_at (file_of tables) 6 ≡ (fields_for (length tables)).0
  unfolding u16_at
  search_range-file_of = ap (λ (b : List ℕ). u16_at b 6) header_of ∙ half_is (fields_for (length tables)).0

  pub entry_selector-file_of : u16_at (file_of tables) 8 ≡ (fields_for (length tables)).1
  unfolding u16_at
  entry_selector-file_of = ap (λ (b : List ℕ). u16_at b 8) header_of ∙ half_is (fields_for (length tables)).1

  pub range_shift-file_of : u16_at (file_of tables) 10 ≡ (fields_for (length tables)).2
  unfolding u16_at
  range_shift-file_of = ap (λ (b : List ℕ). u16_at b 10) header_of ∙ half_is (fields_for (length tables)).2

  pub records_of-file_of : records_of (file_of tables) ≡ entries_at bodies_at tables
  unfolding records_of file_of
  records_of-file_of =
      let entries = entries_at bodies_at tables in
      let header = header_bytes (length tables) in
      ap (λ (n : ℕ). entries_from (file_of tables) 0 n) (table_count-file_of ∙ sym (length-entries_at bodies_at tables))
      ∙ entries_read entries (bodies_of tables) (file_of tables) 0 (tags-entries_at bodies_at tables ok.tags)
      (drop_at header behind_header 12 (length-header_bytes (length tables) ok.some ok.few))
