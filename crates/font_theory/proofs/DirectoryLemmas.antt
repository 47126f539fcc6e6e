-- The directory of a file that is written: its tags ascend, so that no two are the same.
use Rattle.std.proofs.Common.{◌≡◌, ℕ, zero, suc, ◌+◌, ◌*◌, ◌<◌, ◌≤◌, ◌&&◌, ◌||◌, Bool, true, false, cond, nat_eq}
use Rattle.std.proofs.Common.{nat_lt, not, count_by, List, [], ◌∷◌, find, length, map, refl, ap, ◌∙◌, arith, Option}
use Rattle.std.proofs.Common.{Some, None, option_map, inl, inr}
use Rattle.std.specs.List.{range_with_len}
use Rattle.std.specs.Option.{option_map_or}
use Rattle.std.proofs.lemmas.Bool.{and_from, cases_Bool, false_from_ne_true, le-leb, le-ltb, lt-ltb}
use Rattle.std.proofs.lemmas.List.Sums.{sum_by-cons}
use Rattle.std.proofs.lemmas.Slice.Eq.{bytes_eq-Decides}
use Rattle.sfnt_bytes.specs.Directory.{has_tag, is_within, records_of, slot_at, table_count, table_entry}
use Rattle.sfnt_bytes.specs.Findings.{is_ascending}
use Rattle.sfnt_bytes.specs.Lines.{first_of_lines, said_lines, when}
use Rattle.sfnt_bytes.specs.Number.{u32_at}
use Rattle.sfnt_bytes.specs.Refusals.{directory_fault, is_collection, is_duplicate, is_outside, is_truetype}
use Rattle.sfnt_bytes.specs.Tag.{same_tag, tag_number}
use Rattle.sfnt_bytes.specs.declared.directory.DirError.TheVariants.{Collection, DuplicateTable, FileTooLarge}
use Rattle.sfnt_bytes.specs.declared.directory.DirError.TheVariants.{NotTrueType, TableOutOfFile, Truncated}
use Rattle.sfnt_bytes.specs.declared.directory.TheConstants.{MAX_FILE}
use Rattle.sfnt_bytes.specs.declared.records.Entry.{Entry}
use Rattle.sfnt_bytes.specs.declared.tag.Tag.{Tag}
use Rattle.sfnt_bytes.specs.declared.tag.TheConstants.{ALL_SLOTS, KEPT}
use Rattle.codes.proofs.OrderLemmas.{find_none}
use Rattle.font_theory.specs.Bytes.{padded}
use Rattle.font_theory.specs.Content.{Content}
use Rattle.font_theory.specs.File.{Writing, Table, bytes_in_slot, entries_at, file_of, table_at_place, tables_from}
use Rattle.font_theory.proofs.TagLemmas.{place_tag, place_tag-ascends}
use Rattle.font_theory.proofs.RecordLemmas.{AreTables, length-entries_at, length-file_of, records_of-file_of}
use Rattle.font_theory.proofs.RecordLemmas.{table_count-file_of, version-file_of}
use Rattle.font_theory.proofs.SlotLemmas.{table_with}
use Rattle.font_theory.proofs.TableLemmas.{Both, IsPlaced, all_placed}

-- each tag is above the one before it, and the first is not below a bound
abbrev pub Climb : ℕ → List Entry → Type 0
Climb low [] = Unit {0}
Climb low (entry ∷ entries) = (low ≤ tag_number entry.tag) × Climb (tag_number entry.tag + 1) entries

climb-lower : (low lower : ℕ) (entries : List Entry) → lower ≤ low → Climb low entries → Climb lower entries
climb-lower low lower [] le h = tt
climb-lower low lower (entry ∷ entries) le h = let first = h.0 in (omega arith, h.1)

module _ (writing : Writing) (K : Content) (head : List ℕ) where
  climb-slot : (low k n at : ℕ) (o : Option (List ℕ)) → low ≤ tag_number (place_tag k)
      → ((offset : ℕ) → Climb (tag_number (place_tag k) + 1) (entries_at offset (tables_from writing K head (k + 1) n)))
      → Climb low (entries_at at (said_lines (option_map (table_with (slot_at k)) o
      ∷ map (table_at_place writing K head) (range_with_len (k + 1) n))))
  climb-slot low k n at None le rest =
      climb-lower (tag_number (place_tag k) + 1) low (entries_at at (tables_from writing K head (k + 1) n))
      (omega arith) (rest at)
  climb-slot low k n at (Some b) le rest = (le, rest (at + length (padded b)))

  pub climb-slots : (k n low at : ℕ) → k + n ≤ ALL_SLOTS → (0 < n → low ≤ tag_number (place_tag k))
      → Climb low (entries_at at (tables_from writing K head k n))
  climb-slots k zero low at few le = tt
  climb-slots k (suc n) low at few le =
      climb-slot low k n at (bytes_in_slot writing K head (slot_at k)) (le (omega arith))
      (λ place. climb-slots (k + 1) n (tag_number (place_tag k) + 1) place (omega arith)
      (λ some. let next : k + 1 ≡ suc k = omega arith in let same = ap (λ (j : ℕ). tag_number (place_tag j)) next in
      let up = place_tag-ascends k (omega arith) in omega arith))

-- so they ascend
pub is_ascending-climb : (low : ℕ) (entries : List Entry) → Climb low entries → is_ascending entries ≡ true
unfolding is_ascending
is_ascending-climb low [] h = refl
is_ascending-climb low (entry ∷ []) h = refl
is_ascending-climb low (entry ∷ next ∷ rest) h =
    let up = h.1.0 in
    and_from (nat_lt (tag_number entry.tag) (tag_number next.tag)) (is_ascending (next ∷ rest))
    (lt-ltb _ _ (omega arith))
    (is_ascending-climb (tag_number entry.tag + 1) (next ∷ rest) h.1)

-- and no two are the same
same_number : (a b : Tag) → same_tag a b ≡ true → tag_number a ≡ tag_number b
same_number a b h = ap (λ (l : List ℕ). u32_at l 0) ((bytes_eq-Decides a.0 b.0).0 h)

count-cons : (tag : Tag) (entry : Entry) (entries : List Entry) → count_by (has_tag tag) (entry ∷ entries)
    ≡ cond (has_tag tag entry) 1 0 + count_by (has_tag tag) entries
count-cons tag entry entries = sum_by-cons (λ e. cond (has_tag tag e) 1 0) entry entries

count_none : (tag : Tag) (low : ℕ) (entries : List Entry) → Climb low entries → tag_number tag < low
    → count_by (has_tag tag) entries ≡ 0
count_none tag low [] h below = refl
count_none tag low (entry ∷ entries) h below =
    let up = h.0 in
    let f : has_tag tag entry ≡ false = false_from_ne_true _ (λ t. let e = same_number entry.tag tag t in
    omega arith) in
    let one = ap {B = ℕ} (λ (b : Bool). cond b 1 0) f in
    omega (
      arith,
      count-cons tag entry entries,
      one,
      count_none tag (tag_number entry.tag + 1) entries h.1
          (omega arith),
    )

count_one : (tag : Tag) (low : ℕ) (entries : List Entry) → Climb low entries → count_by (has_tag tag) entries ≤ 1
count_one tag low [] h = omega arith
count_one tag low (entry ∷ entries) h =
    elim (cases_Bool (has_tag tag entry)) [
      | inl t ↦
          let e = same_number entry.tag tag t in
          let one = ap {B = ℕ} (λ (b : Bool). cond b 1 0) t in
          omega (
            arith,
            count-cons tag entry entries,
            one,
            count_none tag (tag_number entry.tag + 1) entries h.1
                (omega arith),
          )
      | inr f ↦
          let none = ap {B = ℕ} (λ (b : Bool). cond b 1 0) f in
          omega (arith, count-cons tag entry entries, none, count_one tag (tag_number entry.tag + 1) entries h.1)
    ]

-- a record that is found lies in the file
outside_none : (file : List ℕ) (tables : List Table) (entries : List Entry) (p : Entry → Bool)
    → length entries ≡ length tables → Both (IsPlaced file) tables entries
    → option_map_or (λ entry. not (is_within file entry)) (find p entries) false ≡ false
outside_none file [] [] p same h = refl
outside_none file [] (entry ∷ entries) p same h = absurd (omega arith)
outside_none file (table ∷ tables) [] p same h = refl
outside_none file (table ∷ tables) (entry ∷ entries) p same h =
    let inside = h.0.within in
    let yes : is_within file entry ≡ true = le-leb _ _ (omega arith) in
    elim (p entry) as (λ t. option_map_or (λ entry. not (is_within file entry)) (cond t (Some entry) (find p entries))
    false ≡ false) [
      | true ↦ ap (λ (b : Bool). not b) yes
      | false ↦ outside_none file tables entries p (omega arith) h.1
    ]

duplicate_none : (file : List ℕ) (tag : Tag) (low : ℕ) → Climb low (records_of file) → is_duplicate file tag ≡ false
unfolding is_duplicate
duplicate_none file tag low climb = le-ltb 1 _ (count_one tag low (records_of file) climb)

inside_all : (file : List ℕ) (tables : List Table) (tag : Tag) → length (records_of file) ≡ length tables
    → Both (IsPlaced file) tables (records_of file) → is_outside file tag ≡ false
unfolding is_outside table_entry
inside_all file tables tag same h = outside_none file tables (records_of file) (has_tag tag) same h

-- of tables that climb none stands twice, and none out of the file
pub nothing_twice : (tables : List Table) (low : ℕ) (tags : List Tag) → Climb low (records_of (file_of tables))
    → find (is_duplicate (file_of tables)) tags ≡ None
nothing_twice tables low tags climb = find_none (is_duplicate (file_of tables)) (record { 0 = [] }) tags
    (λ k inside. duplicate_none (file_of tables) _ low climb)

pub nothing_outside : (tables : List Table) (tags : List Tag) → AreTables tables
    → find (is_outside (file_of tables)) tags ≡ None
nothing_outside tables tags ok =
    find_none (is_outside (file_of tables)) (record { 0 = [] }) tags
    (λ k inside. inside_all (file_of tables) tables _ (ap (λ (l : List Entry). length l) (records_of-file_of tables ok)
    ∙ length-entries_at (12 + 16 * length tables) tables) (all_placed tables ok))

-- their directory is accepted, where the file is not too large
pub directory_fault-file_of : (tables : List Table) (low : ℕ) → AreTables tables
    → Climb low (records_of (file_of tables)) → length (file_of tables) ≤ MAX_FILE → directory_fault (file_of tables)
    ≡ None
unfolding directory_fault
directory_fault-file_of tables low ok climb small =
    let file = file_of tables in
    let size = length-file_of tables ok in
    let count = table_count-file_of tables ok in
    let version = version-file_of tables ok in
    let first : nat_lt MAX_FILE (length file) ≡ false = le-ltb _ _ small in
    let whole : nat_lt (length file) 12 ≡ false = le-ltb _ _ (omega arith) in
    let records : nat_lt (length file) (12 + 16 * table_count file) ≡ false = le-ltb _ _ (omega arith) in
    let truetype : is_truetype file ≡ true = ap (λ (n : ℕ). nat_eq n 0x00010000 || nat_eq n 0x74727565) version in
    let second : nat_lt (length file) 12 || (is_truetype file && nat_lt (length file) (12 + 16 * table_count file))
    ≡ false = λ i. whole i || (truetype i && records i) in
    let third : is_collection file ≡ false = ap (λ (n : ℕ). nat_eq n 0x74746366) version in
    let fourth : not (is_truetype file) ≡ false = ap (λ (b : Bool). not b) truetype in
    let fifth : find (is_duplicate file) KEPT ≡ None = nothing_twice tables low KEPT climb in
    let sixth : find (is_outside file) KEPT ≡ None = nothing_outside tables KEPT ok in
    λ i. first_of_lines
    (when (first i) FileTooLarge ∷ when (second i) Truncated ∷ when (third i) Collection ∷ when (fourth i) NotTrueType
    ∷ option_map DuplicateTable (fifth i) ∷ option_map TableOutOfFile (sixth i) ∷ [])
