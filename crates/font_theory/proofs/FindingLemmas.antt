-- The file of a content has no finding.
use Rattle.std.proofs.Common.{◌≡◌, ℕ, ◌+◌, ◌*◌, ◌%◌, ◌<◌, ◌≤◌, ◌&&◌, true, false, cond, codes, nat_eq, nat_le, not}
use Rattle.std.proofs.Common.{List, [], ◌∷◌, ◌++◌, take, drop, length, replicate, refl, sym, ap, subst, ◌∙◌, arith}
use Rattle.std.proofs.Common.{Option, Some, flat_map, inl, inr}
use Rattle.std.specs.Option.{option_map_or}
use Rattle.std.proofs.lemmas.Bool.{cases_eq, eq-eqb, le-leb, ne_eqb}
use Rattle.std.proofs.lemmas.List.{length-replicate}
use Rattle.std.proofs.lemmas.Slice.Eq.{bytes_eq-Decides}
use Rattle.sfnt_bytes.specs.declared.tag.TheConstants.{ALL_SLOTS}
use Rattle.sfnt_bytes.specs.Directory.{is_within, records_of, slot_at, slot_tag, table_count}
use Rattle.sfnt_bytes.specs.Findings.{entry_findings, findings_of, has_file_sum, has_search_fields, has_wrong_file_sum}
use Rattle.sfnt_bytes.specs.Findings.{is_ascending, is_padded, padding_of, table_sum}
use Rattle.sfnt_bytes.specs.Lines.{said_lines, when}
use Rattle.sfnt_bytes.specs.Number.{u16_at}
use Rattle.sfnt_bytes.specs.SearchFields.{search_fields_of}
use Rattle.sfnt_bytes.specs.Sums.{adjustment_of, checksum_of, without_field}
use Rattle.sfnt_bytes.specs.Tag.{same_tag}
use Rattle.sfnt_bytes.specs.declared.findings.Finding.TheVariants.{Checksum, FileSum, OutOfFile, Padding, SearchFields}
use Rattle.sfnt_bytes.specs.declared.findings.Finding.TheVariants.{Unaligned, Unsorted}
use Rattle.sfnt_bytes.specs.declared.records.Entry.{Entry}
use Rattle.font_tables.specs.Tables.{named}
use Rattle.font_theory.specs.Content.{Content, IsWritable}
use Rattle.font_theory.specs.File.{Writing, Table, adjustment_in, bytes_in_slot, file, file_of}
use Rattle.font_theory.proofs.AcceptedLemmas.{climb-file}
use Rattle.font_theory.proofs.AdjustmentLemmas.{length-with_adjustment}
use Rattle.font_theory.proofs.DirectoryLemmas.{is_ascending-climb}
use Rattle.font_theory.proofs.HeadTableLemmas.{head_at, table_entry-head, u32_at-adjustment, without_field-file}
use Rattle.font_theory.proofs.MeaningLemmas.{file-is, last_head, last_tables}
use Rattle.font_theory.proofs.RecordLemmas.{AreTables, Each, entry_selector-file_of, fields_for, length-entries_at}
use Rattle.font_theory.proofs.RecordLemmas.{range_shift-file_of, records_of-file_of, search_fields_of-some}
use Rattle.font_theory.proofs.RecordLemmas.{search_range-file_of, table_count-file_of}
use Rattle.font_theory.proofs.SlotLemmas.{are_tables, each_slot, table_with}
use Rattle.font_theory.proofs.TableLemmas.{Both, IsPlaced, all_placed, entry_of}
use Rattle.font_theory.proofs.TagLemmas.{same_tag-head}

-- the checksum of a table is that of its bytes, and of `head` that with the field as zeros
abbrev IsSummed : Table → Type 0
IsSummed table = table.checksum ≡ cond (same_tag table.tag (named (codes "head")) && nat_le 12 (length table.bytes))
    (checksum_of (without_field table.bytes 8)) (checksum_of table.bytes)

-- nothing is found of a table that is placed and summed
table_sum-placed : (file : List ℕ) (table : Table) (at : ℕ) → IsPlaced file table (entry_of at table) → IsSummed table
    → table_sum file (entry_of at table) ≡ table.checksum
unfolding table_sum
table_sum-placed file table at placed summed =
    (λ i. cond (same_tag table.tag (named (codes "head")) && nat_le 12 (length table.bytes))
    (checksum_of (without_field (placed.bytes i) 8)) (checksum_of (placed.bytes i))) ∙ sym summed

is_padded-placed : (file : List ℕ) (table : Table) (entry : Entry) → IsPlaced file table entry
    → is_padded file entry ≡ true
unfolding is_padded
is_padded-placed file table entry placed =
    let zeros : List ℕ = replicate (padding_of entry.length) 0 in
    let size : length zeros ≡ padding_of entry.length = length-replicate (padding_of entry.length) 0 in
    let same : zeros ≡ take (length zeros) (drop (entry.offset + entry.length) file) =
    sym (ap (λ (n : ℕ). take n (drop (entry.offset + entry.length) file)) size ∙ placed.padding) in
    (bytes_eq-Decides zeros (take (length zeros) (drop (entry.offset + entry.length) file))).1 same

nothing_at : (file : List ℕ) (table : Table) (at : ℕ) → IsPlaced file table (entry_of at table) → IsSummed table
    → entry_findings file (entry_of at table) ≡ []
unfolding entry_findings
nothing_at file table at placed summed =
    let entry = entry_of at table in
    let inside = placed.within in
    let within : is_within file entry ≡ true = le-leb _ _ (omega arith) in
    let aligned : nat_eq (at % 4) 0 ≡ true = eq-eqb _ _ placed.aligned in
    let padded = is_padded-placed file table entry placed in
    let sum : nat_eq (table_sum file entry) table.checksum ≡ true =
    eq-eqb _ _ (table_sum-placed file table at placed summed) in
    λ i. cond (not (within i)) (OutOfFile table.tag ∷ [])
    (said_lines (when (not (aligned i)) (Unaligned table.tag) ∷ when (not (padded i)) (Padding table.tag)
    ∷ when (not (sum i)) (Checksum table.tag) ∷ []))

nothing_found : (file : List ℕ) (tables : List Table) (entries : List Entry) → length entries ≡ length tables
    → Both (IsPlaced file) tables entries → Each IsSummed tables → flat_map (entry_findings file) entries ≡ []
nothing_found file [] [] same placed summed = refl
nothing_found file [] (entry ∷ entries) same placed summed = absurd (omega arith)
nothing_found file (table ∷ tables) [] same placed summed = refl
nothing_found file (table ∷ tables) (entry ∷ entries) same placed summed =
    let is = placed.0.is in
    let first : entry_findings file entry ≡ [] =
    ap (entry_findings file) is ∙ nothing_at file table entry.offset (subst (IsPlaced file table) is placed.0)
    summed.0 in
    λ i. first i ++ nothing_found file tables entries (omega arith) placed.1 summed.1 i

-- the search fields are those of the number of tables
has_search_fields-file_of : (tables : List Table) → AreTables tables → has_search_fields (file_of tables) ≡ true
unfolding has_search_fields
has_search_fields-file_of tables ok =
    let file = file_of tables in
    let n = length tables in
    let fields : search_fields_of (table_count file) ≡ Some (fields_for n) =
    ap search_fields_of (table_count-file_of tables ok) ∙ search_fields_of-some n ok.some ok.few in
    let first : nat_eq (u16_at file 6) (fields_for n).0 ≡ true = eq-eqb _ _ (search_range-file_of tables ok) in
    let second : nat_eq (u16_at file 8) (fields_for n).1 ≡ true = eq-eqb _ _ (entry_selector-file_of tables ok) in
    let third : nat_eq (u16_at file 10) (fields_for n).2 ≡ true = eq-eqb _ _ (range_shift-file_of tables ok) in
    ap (λ (o : Option (ℕ × ℕ × ℕ)). option_map_or (λ f. nat_eq (u16_at file 6) f.0 && nat_eq (u16_at file 8) f.1
    && nat_eq (u16_at file 10) f.2) o false) fields
    ∙ (λ i. first i && second i && third i)

module _ (writing : Writing) (K : Content) (ok : IsWritable K) where
  long_head : 12 ≤ length (last_head writing K)
  long_head =
      let long = ok.head_size in
      let same = length-with_adjustment (adjustment_in writing K) K.head (omega arith) in
      omega arith

  summed-slot : (place : ℕ) (b : List ℕ) → place < ALL_SLOTS
      → bytes_in_slot writing K (last_head writing K) (slot_at place)
      ≡ Some b → IsSummed (table_with (slot_at place) b)
  unfolding bytes_in_slot
  summed-slot place b low is =
      let slot : ℕ = slot_at place in
      elim (cases_eq slot 6) [
        | inl e ↦
            let here : Some (last_head writing K) ≡ Some b = ap (bytes_in_slot writing K (last_head writing K)) (sym e)
            ∙ is in
            let same : last_head writing K ≡ b = cc in
            let whole : nat_le 12 (length b) ≡ true =
            le-leb 12 (length b) (subst (λ (l : List ℕ). 12 ≤ length l) same long_head) in
            let t = eq-eqb slot 6 e in
            let tag : same_tag (slot_tag slot) (named (codes "head")) ≡ true = same_tag-head place low ∙ t in
            (λ i. cond (t i) (checksum_of (without_field b 8)) (checksum_of b))
            ∙ sym (λ i. cond (tag i && whole i) (checksum_of (without_field b 8)) (checksum_of b))
        | inr ne ↦
            let f = ne_eqb slot 6 ne in
            let tag : same_tag (slot_tag slot) (named (codes "head")) ≡ false = same_tag-head place low ∙ f in
            (λ i. cond (f i) (checksum_of (without_field b 8)) (checksum_of b))
            ∙ sym (λ i. cond (tag i && nat_le 12 (length b)) (checksum_of (without_field b 8)) (checksum_of b))
      ]

  entries_fine : flat_map (entry_findings (file writing K)) (records_of (file writing K)) ≡ []
  entries_fine =
      let tables = last_tables writing K in
      let are = are_tables writing K (last_head writing K) in
      let same : length (records_of (file_of tables)) ≡ length tables =
      ap (λ (l : List Entry). length l) (records_of-file_of tables are)
      ∙ length-entries_at (12 + 16 * length tables) tables in
      subst (λ (b : List ℕ). flat_map (entry_findings b) (records_of b) ≡ []) (sym (file-is writing K))
      (nothing_found (file_of tables) tables (records_of (file_of tables)) same (all_placed tables are)
      (each_slot writing K (last_head writing K) IsSummed 0 ALL_SLOTS (λ place b from to e. summed-slot place b
      (omega arith)
      e)))

  has_file_sum-file : has_file_sum (file writing K) (head_at writing K + 8) ≡ true
  unfolding has_file_sum adjustment_in
  has_file_sum-file =
      eq-eqb _ _ (u32_at-adjustment writing K ok
      ∙ ap (λ (b : List ℕ). adjustment_of (checksum_of b)) (sym (without_field-file writing K ok)))

  -- the adjustment is that of the file
  has_wrong_file_sum-file : has_wrong_file_sum (file writing K) ≡ false
  unfolding has_wrong_file_sum
  has_wrong_file_sum-file =
      let whole : nat_le 12 (length (last_head writing K)) ≡ true = le-leb _ _ long_head in
      let right = has_file_sum-file in
      ap (λ (o : Option Entry). option_map_or (λ head. nat_le 12 head.length
      && not (has_file_sum (file writing K) (head.offset + 8))) o false) (table_entry-head writing K)
      ∙ (λ i. whole i && not (right i))

  -- nothing is found
  pub findings_of-file : findings_of (file writing K) ≡ []
  unfolding findings_of
  findings_of-file =
      let climb : is_ascending (records_of (file writing K)) ≡ true =
      is_ascending-climb 0 (records_of (file writing K)) (climb-file writing K) in
      let fields : has_search_fields (file writing K) ≡ true =
      ap has_search_fields (file-is writing K)
      ∙ has_search_fields-file_of (last_tables writing K) (are_tables writing K (last_head writing K)) in
      λ i. said_lines (when (not (climb i)) Unsorted ∷ when (not (fields i)) SearchFields ∷ []) ++ entries_fine i
      ++ said_lines (when (has_wrong_file_sum-file i) FileSum ∷ [])
