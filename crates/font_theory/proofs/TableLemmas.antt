-- The tables of a file are read back by their tags, and stand as they should.
use Rattle.std.proofs.Common.{◌≡◌, ℕ, ◌+◌, ◌-◌, ◌%◌, ◌≤◌, true, false, cond, List, [], ◌∷◌, ◌++◌, find, take, drop}
use Rattle.std.proofs.Common.{length, replicate, slice_range, refl, sym, ap, ◌∙◌, arith, Some, option_map}
use Rattle.std.proofs.lemmas.List.{append_assoc, drop-drop, drop_at, length-append}
use Rattle.sfnt_bytes.specs.Directory.{has_tag, records_of, table_bytes, table_entry, table_of}
use Rattle.sfnt_bytes.specs.Findings.{padding_of}
use Rattle.sfnt_bytes.specs.Tag.{same_tag}
use Rattle.sfnt_bytes.specs.declared.records.Entry.{Entry}
use Rattle.sfnt_bytes.specs.declared.tag.Tag.{Tag}
use Rattle.font_theory.specs.Bytes.{padded}
use Rattle.font_theory.specs.File.{Table, bodies_of, entries_at, file_of}
use Rattle.font_theory.proofs.PaddedLemmas.{length-padded}
use Rattle.font_theory.proofs.PaddingLemmas.{length-padded-is, take-drop-padded, take-padded}
use Rattle.font_theory.proofs.RecordLemmas.{AreTables, bodies_at, file_of-is, front_of, length-front_of}
use Rattle.font_theory.proofs.RecordLemmas.{records_of-file_of}

-- the record of a table that stands at an offset
abbrev pub entry_of : ℕ → Table → Entry
entry_of at table = record { tag = table.tag; checksum = table.checksum; offset = at; length = length table.bytes }

abbrev pub bytes_in : Table → List ℕ
bytes_in table = table.bytes

-- the bytes at the place of a record
slice_at : (file p b z : List ℕ) (at : ℕ) → length p ≡ at → file ≡ p ++ (padded b ++ z)
    → slice_range file at (at + length b) ≡ b
slice_at file p b z at long is =
    let size : at + length b - at ≡ length b = omega arith in
    let here : drop at file ≡ padded b ++ z = ap (drop at) is ∙ drop_at p (padded b ++ z) at long in
    (λ i. take (size i) (here i)) ∙ take-padded b z

-- a table is found under its tag
tables_found : (tables : List Table) (file p : List ℕ) (at : ℕ) (tag : Tag) → length p ≡ at → file ≡ p
    ++ bodies_of tables
    → option_map (table_bytes file) (find (has_tag tag) (entries_at at tables))
    ≡ option_map bytes_in (find (λ table. same_tag table.tag tag) tables)
tables_found [] file p at tag long is = refl
tables_found (table ∷ tables) file p at tag long is =
    let b = table.bytes in
    let next = at + length (padded b) in
    let split : file ≡ (p ++ padded b) ++ bodies_of tables = is ∙ sym (append_assoc p (padded b) (bodies_of tables)) in
    let longer : length (p ++ padded b) ≡ next = omega (arith, length-append p (padded b)) in
    elim (same_tag table.tag tag) as (λ t.
    option_map (table_bytes file) (cond t (Some (entry_of at table)) (find (has_tag tag) (entries_at next tables)))
    ≡ option_map bytes_in (cond t (Some table) (find (λ table. same_tag table.tag tag) tables))) [
      | true ↦ ap (λ (x : List ℕ). Some x) (slice_at file p b (bodies_of tables) at long is)
      | false ↦ tables_found tables file (p ++ padded b) next tag longer split
    ]

pub table_of-file_of : (tables : List Table) (tag : Tag) → AreTables tables → table_of (file_of tables) tag
    ≡ option_map bytes_in (find (λ table. same_tag table.tag tag) tables)
unfolding table_of table_entry
table_of-file_of tables tag ok =
    ap (λ (entries : List Entry). option_map (table_bytes (file_of tables)) (find (has_tag tag) entries))
    (records_of-file_of tables ok)
    ∙ tables_found tables (file_of tables) (front_of tables ok) (bodies_at tables ok) tag (length-front_of tables ok)
    (file_of-is tables ok)

-- the table of a record lies in the file, begins at a multiple of 4, and is followed by zeros
pub record IsPlaced (file : List ℕ) (table : Table) (entry : Entry) : Type 0 where
  pub is : entry ≡ entry_of entry.offset table
  pub bytes : table_bytes file entry ≡ table.bytes
  pub within : entry.offset + entry.length + padding_of entry.length ≤ length file
  pub aligned : entry.offset % 4 ≡ 0
  pub padding : take (padding_of entry.length) (drop (entry.offset + entry.length) file)
      ≡ replicate (padding_of entry.length) 0

-- two lists go together, member by member
abbrev pub Both : {X Y : Type 0} → (X → Y → Type 0) → List X → List Y → Type 0
Both P [] ys = Unit {0}
Both P (x ∷ xs) [] = ⊥
Both P (x ∷ xs) (y ∷ ys) = P x y × Both P xs ys

placed : (file p z : List ℕ) (at : ℕ) (table : Table) → length p ≡ at → at % 4 ≡ 0
    → file ≡ p ++ (padded table.bytes ++ z) → IsPlaced file table (entry_of at table)
placed file p z at table long whole is =
    let b = table.bytes in
    let size = ap (λ (x : List ℕ). length x) is ∙ length-append p (padded b ++ z) in
    let more = length-append (padded b) z in
    let filled = length-padded-is b in
    let here : drop at file ≡ padded b ++ z = ap (drop at) is ∙ drop_at p (padded b ++ z) at long in
    let behind : drop (at + length b) file ≡ drop (length b) (padded b ++ z) = sym (drop-drop (length b) at file)
    ∙ ap (drop (length b)) here in
    record {
      is = refl;
      bytes = slice_at file p b z at long is;
      within = omega arith;
      aligned = whole;
      padding = ap (take (padding_of (length b))) behind ∙ take-drop-padded b z;
    }

tables_placed : (tables : List Table) (file p : List ℕ) (at : ℕ) → length p ≡ at → at % 4 ≡ 0
    → file ≡ p ++ bodies_of tables → Both (IsPlaced file) tables (entries_at at tables)
tables_placed [] file p at long whole is = tt
tables_placed (table ∷ tables) file p at long whole is =
    let b = table.bytes in
    let split : file ≡ (p ++ padded b) ++ bodies_of tables = is ∙ sym (append_assoc p (padded b) (bodies_of tables)) in
    let longer : length (p ++ padded b) ≡ at + length (padded b) = omega (arith, length-append p (padded b)) in
    let whole_next : (at + length (padded b)) % 4 ≡ 0 = omega (arith, length-padded b) in (
      placed file p (bodies_of tables) at table long whole is,
      tables_placed tables file (p ++ padded b)
          (at + length (padded b)) longer whole_next split,
    )

pub all_placed : (tables : List Table) → AreTables tables
    → Both (IsPlaced (file_of tables)) tables (records_of (file_of tables))
all_placed tables ok =
    rw (records_of-file_of tables ok)
    (tables_placed tables (file_of tables) (front_of tables ok) (bodies_at tables ok) (length-front_of tables ok)
    (omega arith) (file_of-is tables ok))
