-- `head` among the tables of a file: what stands before and after it, and its field as zeros.
use Rattle.std.proofs.Common.{◌≡◌, ◌≢◌, ℕ, zero, suc, ◌+◌, ◌*◌, ◌<◌, ◌≤◌, ◌⊎◌, true, codes, List, [], ◌∷◌, ◌++◌, find}
use Rattle.std.proofs.Common.{take, drop, length, map, replicate, refl, sym, ap, subst, ◌∙◌, arith, Some, None}
use Rattle.std.proofs.Common.{option_map, inl, inr, flat_map}
use Rattle.std.specs.List.{range_with_len}
use Rattle.std.proofs.lemmas.Bool.{cond_both, eqb-false, ne_eqb}
use Rattle.std.proofs.lemmas.List.{append_assoc, drop_at, get_or_append_left, length-append, length-drop}
use Rattle.std.proofs.lemmas.List.{length-take-le, take-append-drop, take_at}
use Rattle.std.proofs.lemmas.List.Concat.{flat_map-append}
use Rattle.sfnt_bytes.specs.declared.tag.TheConstants.{ALL_SLOTS}
use Rattle.sfnt_bytes.specs.Directory.{has_tag, kept_tag, records_of, slot_at, slot_tag, table_entry}
use Rattle.sfnt_bytes.specs.Findings.{padding_of}
use Rattle.sfnt_bytes.specs.Lines.{said_lines}
use Rattle.sfnt_bytes.specs.Number.{number, u32_at}
use Rattle.sfnt_bytes.specs.Sums.{checksum_of, without_field}
use Rattle.sfnt_bytes.specs.Tag.{same_tag}
use Rattle.sfnt_bytes.specs.declared.records.Entry.{Entry}
use Rattle.sfnt_bytes.specs.declared.tag.Tag.{Tag}
use Rattle.font_tables.specs.Tables.{named}
use Rattle.font_theory.specs.Bytes.{padded}
use Rattle.font_theory.specs.Content.{Content, IsWritable}
use Rattle.font_theory.specs.File.{Writing, Table, adjustment_in, bodies_of, bytes_in_slot, checksum_in_slot}
use Rattle.font_theory.specs.File.{entries_at, entry_bytes, file, file_of, file_with, header_bytes, table_at_place}
use Rattle.font_theory.specs.File.{tables_from}
use Rattle.font_theory.proofs.AdjustmentLemmas.{length-with_adjustment, u32_at-with_adjustment, with_adjustment-zero}
use Rattle.font_theory.proofs.AdjustmentLemmas.{without_field-head, without_field-with_adjustment}
use Rattle.font_theory.proofs.MeaningLemmas.{file-is, last_head, last_tables}
use Rattle.font_variations.proofs.NumberLemmas.{u32_at-drop}
use Rattle.font_theory.proofs.PaddingLemmas.{length-padded-is}
use Rattle.font_theory.proofs.RecordLemmas.{bodies_at, length-front_of, records_of-file_of}
use Rattle.font_theory.proofs.SlotLemmas.{are_tables, found_nowhere, is_of, table_with, tables_from-split}
use Rattle.font_theory.proofs.TableLemmas.{entry_of}
use Rattle.font_theory.proofs.TagLemmas.{slot_at-head, slot_at-place_of}

pub bodies_of-append : (us vs : List Table) → bodies_of (us ++ vs) ≡ bodies_of us ++ bodies_of vs
bodies_of-append us vs = flat_map-append (λ table. padded table.bytes) us vs

-- the records of tables after others begin after the bodies of those
pub entries_at-append : (at : ℕ) (us vs : List Table) → entries_at at (us ++ vs) ≡ entries_at at us
    ++ entries_at (at + length (bodies_of us)) vs
entries_at-append at [] vs = let e : at ≡ at + 0 = omega arith in ap (λ (n : ℕ). entries_at n vs) e
entries_at-append at (u ∷ us) vs =
    let next = at + length (padded u.bytes) in
    let e : next + length (bodies_of us) ≡ at + length (bodies_of (u ∷ us)) =
    omega (arith, length-append (padded u.bytes) (bodies_of us)) in
    ap (λ (l : List Entry). entry_of at u ∷ l) (entries_at-append next us vs
    ∙ ap (λ (n : ℕ). entries_at next us ++ entries_at n vs) e)

-- a table of the same tag, checksum and length has the same record, and leaves the others
same_entries : (at : ℕ) (us vs : List Table) (d e : Table) → d.tag ≡ e.tag → d.checksum ≡ e.checksum
    → length d.bytes ≡ length e.bytes → entries_at at (us ++ d ∷ vs) ≡ entries_at at (us ++ e ∷ vs)
same_entries at [] vs d e t s n =
    let filled : length (padded d.bytes) ≡ length (padded e.bytes) = length-padded-is d.bytes
    ∙ (λ i. n i + padding_of (n i)) ∙ sym (length-padded-is e.bytes) in
    λ i. record { tag = t i; checksum = s i; offset = at; length = n i } ∷ entries_at (at + filled i) vs
same_entries at (u ∷ us) vs d e t s n =
    ap (λ (l : List Entry). entry_of at u ∷ l) (same_entries (at + length (padded u.bytes)) us vs d e t s n)

-- the first table of a tag that those before it have not
entry_found : (us : List Table) (e : Table) (vs : List Table) (at : ℕ) (tag : Tag)
    → find (λ table. same_tag table.tag tag) us ≡ None → same_tag e.tag tag ≡ true
    → find (has_tag tag) (entries_at at (us ++ e ∷ vs)) ≡ Some (entry_of (at + length (bodies_of us)) e)
entry_found [] e vs at tag none same = let here : at ≡ at + 0 = omega arith in
    rw same (ap (λ (n : ℕ). Some (entry_of n e)) here)
entry_found (u ∷ us) e vs at tag none same =
    let next = at + length (padded u.bytes) in
    let place : next + length (bodies_of us) ≡ at + length (bodies_of (u ∷ us)) =
    omega (arith, length-append (padded u.bytes) (bodies_of us)) in
    cond_both (same_tag u.tag tag) (Some u) (find (λ table. same_tag table.tag tag) us)
    (λ o. o ≡ None → find (has_tag tag) (entry_of at u ∷ entries_at next (us ++ e ∷ vs))
    ≡ Some (entry_of (at + length (bodies_of (u ∷ us))) e))
    (λ t some. absurd (let q : ⊥ = cc in q))
    (λ f rest. rw f (entry_found us e vs next tag rest same ∙ ap (λ (n : ℕ). Some (entry_of n e)) place))
    none

-- the four bytes from the eighth on of a table that stands after others, as zeros
without_field-within : (p b q : List ℕ) → 12 ≤ length b → without_field (p ++ (b ++ q)) (length p + 8) ≡ p
    ++ (without_field b 8 ++ q)
unfolding without_field
without_field-within p b q long =
    let split : (n : ℕ) → p ++ (b ++ q) ≡ (p ++ take n b) ++ (drop n b ++ q) =
    λ n. ap (λ (x : List ℕ). p ++ (x ++ q)) (sym (take-append-drop n b))
    ∙ ap (λ (x : List ℕ). p ++ x) (append_assoc (take n b) (drop n b) q)
    ∙ sym (append_assoc p (take n b) (drop n b ++ q)) in
    let eight : length (p ++ take 8 b) ≡ length p + 8 =
    omega (arith, length-append p (take 8 b), length-take-le 8 b (omega arith)) in
    let twelve : length (p ++ take 12 b) ≡ length p + 8 + 4 =
    omega (arith, length-append p (take 12 b), length-take-le 12 b long) in
    let front : take (length p + 8) (p ++ (b ++ q)) ≡ p ++ take 8 b = ap (take (length p + 8)) (split 8)
    ∙ take_at (p ++ take 8 b) (drop 8 b ++ q) (length p + 8) eight in
    let end : drop (length p + 8 + 4) (p ++ (b ++ q)) ≡ drop 12 b ++ q = ap (drop (length p + 8 + 4)) (split 12)
    ∙ drop_at (p ++ take 12 b) (drop 12 b ++ q) (length p + 8 + 4) twelve in
    let zeros : List ℕ = replicate 4 0 in
    (λ i. front i ++ (zeros ++ end i))
    ∙ append_assoc p (take 8 b) (zeros ++ (drop 12 b ++ q))
    ∙ ap (λ (x : List ℕ). p ++ x) (sym (append_assoc (take 8 b) (zeros ++ drop 12 b) q))

length-without_field : (b : List ℕ) → 12 ≤ length b → length (without_field b 8) ≡ length b
unfolding without_field
length-without_field b long = let zeros : List ℕ = replicate 4 0 in
    omega (arith, length-append (take 8 b) (zeros ++ drop 12 b), length-take-le 8 b (omega arith), length-drop 12 b)

without_field-padded : (b : List ℕ) → 12 ≤ length b → without_field (padded b) 8 ≡ padded (without_field b 8)
unfolding padded
without_field-padded b long =
    let same = length-without_field b long in
    without_field-within [] b (replicate (padding_of (length b)) 0) long
    ∙ (λ i. without_field b 8 ++ replicate (padding_of (sym same i)) 0)

-- a number within the first of two lists
u32_at-append : (b z : List ℕ) (at : ℕ) → at + 4 ≤ length b → u32_at (b ++ z) at ≡ u32_at b at
unfolding u32_at
u32_at-append b z at inside =
    let first = get_or_append_left b z 0 at (omega arith) in
    let second = get_or_append_left b z 0 (at + 1) (omega arith) in
    let third = get_or_append_left b z 0 (at + 2) (omega arith) in
    let fourth = get_or_append_left b z 0 (at + 3) (omega arith) in
    λ i. number (first i) (second i) (third i) (fourth i)

head_tag_is : slot_tag 6 ≡ named (codes "head")
unfolding kept_tag slot_tag
head_tag_is = refl

module _ (writing : Writing) (K : Content) where
  -- the tables before `head`, and those after it
  abbrev pub before_head : List Table
  before_head = tables_from writing K K.head 0 20

  abbrev pub behind_head : List Table
  behind_head = tables_from writing K K.head 21 10

  same_slot : (head : List ℕ) (slot : ℕ) → slot ≢ 6 → bytes_in_slot writing K head slot ≡ bytes_in_slot writing K K.head
      slot
  unfolding bytes_in_slot
  same_slot head slot other = let f = ne_eqb slot 6 other in rw f refl

  same_lines : (head : List ℕ) (k n : ℕ) → k + n ≤ ALL_SLOTS → (20 < k) ⊎ (k + n ≤ 20)
      → map (table_at_place writing K head) (range_with_len k n) ≡ map (table_at_place writing K K.head)
      (range_with_len k n)
  same_lines head k zero few out = refl
  same_lines head k (suc n) few out =
      let other : k ≢ 20 = λ e. elim out [ inl h ↦ omega arith | inr h ↦ omega arith ] in
      let next : (20 < k + 1) ⊎ (k + 1 + n ≤ 20) = elim out [ inl h ↦ inl (omega arith) | inr h ↦ inr (omega arith) ] in
      let here = same_slot head (slot_at k) (eqb-false _ _ (slot_at-head k (omega arith) ∙ ne_eqb k 20 other)) in
      λ i. option_map (table_with (slot_at k)) (here i) ∷ same_lines head (k + 1) n (omega arith) next i

  head_slot : (head : List ℕ) → tables_from writing K head 20 11 ≡ table_with 6 head ∷ tables_from writing K head 21 10
  unfolding bytes_in_slot slot_at
  head_slot head = refl

  -- `head` in their midst
  pub split_at_head : (head : List ℕ)
      → tables_from writing K head 0 ALL_SLOTS ≡ before_head ++ table_with 6 head ∷ behind_head
  split_at_head head =
      tables_from-split writing K head 0 20 11
      ∙ ap (λ (l : List Table). tables_from writing K head 0 20 ++ l) (head_slot head)
      ∙ (λ i. said_lines (same_lines head 0 20 (omega arith) (inr (omega arith)) i) ++ table_with 6 head
      ∷ said_lines (same_lines head 21 10 (omega arith) (inl (omega arith)) i))

  -- where `head` stands
  abbrev pub head_at : ℕ
  head_at = bodies_at (last_tables writing K) (are_tables writing K (last_head writing K))
      + length (bodies_of before_head)

  -- what stands before it
  abbrev pub before_bytes : List ℕ
  before_bytes = (header_bytes (length (last_tables writing K))
      ++ flat_map entry_bytes (entries_at (12 + 16 * length (last_tables writing K)) (last_tables writing K)))
      ++ bodies_of before_head

  pub length-before_bytes : length before_bytes ≡ head_at
  length-before_bytes =
      let front = header_bytes (length (last_tables writing K))
      ++ flat_map entry_bytes (entries_at (12 + 16 * length (last_tables writing K)) (last_tables writing K)) in
      let long = length-front_of (last_tables writing K) (are_tables writing K (last_head writing K)) in
      length-append front (bodies_of before_head) ∙ ap (λ (n : ℕ). n + length (bodies_of before_head)) long

  head_nowhere : find (is_of 6) before_head ≡ None
  head_nowhere = subst (λ (slot : ℕ). find (is_of slot) before_head ≡ None) (slot_at-place_of 6 (omega arith))
      (found_nowhere writing K K.head 20 0 20 (omega arith) (omega arith) (inr (omega arith)))

  head_same : same_tag (slot_tag 6) (slot_tag 6) ≡ true
  unfolding slot_tag kept_tag
  head_same = refl

  pub table_entry-head : table_entry (file writing K) (named (codes "head"))
      ≡ Some (entry_of head_at (table_with 6 (last_head writing K)))
  unfolding table_entry
  table_entry-head =
      let ok = are_tables writing K (last_head writing K) in
      let at = 12 + 16 * length (last_tables writing K) in
      ap (λ (tag : Tag). find (has_tag tag) (records_of (file writing K))) (sym head_tag_is)
      ∙ ap (λ (b : List ℕ). find (has_tag (slot_tag 6)) (records_of b)) (file-is writing K)
      ∙ ap (λ (l : List Entry). find (has_tag (slot_tag 6)) l) (records_of-file_of (last_tables writing K) ok)
      ∙ ap (λ (l : List Table). find (has_tag (slot_tag 6)) (entries_at at l)) (split_at_head (last_head writing K))
      ∙ entry_found before_head (table_with 6 (last_head writing K)) behind_head at (slot_tag 6)
      head_nowhere head_same

  module _ (ok : IsWritable K) where
    -- the field as zeros gives the padded `head` back
    zeroed : without_field (padded (last_head writing K)) 8 ≡ padded K.head
    zeroed =
        let long = ok.head_size in
        let same = length-with_adjustment (adjustment_in writing K) K.head (omega arith) in
        without_field-padded (last_head writing K) (omega arith)
        ∙ ap padded (without_field-with_adjustment (adjustment_in writing K) K.head ok.head_size ok.head_form)

    pub checksum-head : checksum_in_slot 6 K.head ≡ checksum_in_slot 6 (last_head writing K)
    checksum-head =
        ap checksum_of (without_field-head K.head ∙ with_adjustment-zero K.head ok.head_size ok.head_form
        ∙ sym (without_field-with_adjustment (adjustment_in writing K) K.head ok.head_size ok.head_form))

    -- a file with either `head`, in three parts
    file_split : file writing K ≡ before_bytes ++ (padded (last_head writing K) ++ bodies_of behind_head)
    unfolding file_of
    file_split =
        let tables = last_tables writing K in
        let header = header_bytes (length tables) in
        let records = flat_map entry_bytes (entries_at (12 + 16 * length tables) tables) in
        let rest = padded (last_head writing K) ++ bodies_of behind_head in
        file-is writing K
        ∙ ap (λ (l : List Table). header ++ (records ++ bodies_of l)) (split_at_head (last_head writing K))
        ∙ ap (λ (b : List ℕ). header ++ (records ++ b))
        (bodies_of-append before_head (table_with 6 (last_head writing K) ∷ behind_head))
        ∙ sym (append_assoc header records (bodies_of before_head ++ rest))
        ∙ sym (append_assoc (header ++ records) (bodies_of before_head) rest)

    -- either `head` leaves the records
    pub same_count : length (last_tables writing K) ≡ length (tables_from writing K K.head 0 ALL_SLOTS)
    same_count =
        ap (λ (l : List Table). length l) (split_at_head (last_head writing K))
        ∙ length-append before_head (table_with 6 (last_head writing K) ∷ behind_head)
        ∙ sym (length-append before_head (table_with 6 K.head ∷ behind_head))
        ∙ ap (λ (l : List Table). length l) (sym (split_at_head K.head))

    same_records : (at : ℕ)
        → entries_at at (last_tables writing K) ≡ entries_at at (tables_from writing K K.head 0 ALL_SLOTS)
    same_records at =
        let long = ok.head_size in
        let same = length-with_adjustment (adjustment_in writing K) K.head (omega arith) in
        ap (entries_at at) (split_at_head (last_head writing K))
        ∙ sym (same_entries at before_head behind_head (table_with 6 K.head) (table_with 6 (last_head writing K)) refl
        checksum-head (sym same))
        ∙ ap (entries_at at) (sym (split_at_head K.head))

    pub all_records : entries_at (12 + 16 * length (last_tables writing K)) (last_tables writing K)
        ≡ entries_at (12 + 16 * length (tables_from writing K K.head 0 ALL_SLOTS))
        (tables_from writing K K.head 0 ALL_SLOTS)
    all_records =
        same_records (12 + 16 * length (last_tables writing K))
        ∙ ap (λ (n : ℕ). entries_at (12 + 16 * n) (tables_from writing K K.head 0 ALL_SLOTS)) same_count

    other_split : file_with writing K K.head ≡ before_bytes ++ (padded K.head ++ bodies_of behind_head)
    unfolding file_of
    other_split =
        let tables = tables_from writing K K.head 0 ALL_SLOTS in
        let header = header_bytes (length tables) in
        let records = flat_map entry_bytes (entries_at (12 + 16 * length tables) tables) in
        let rest = padded K.head ++ bodies_of behind_head in
        ap (λ (l : List Table). header ++ (records ++ bodies_of l)) (split_at_head K.head)
        ∙ ap (λ (b : List ℕ). header ++ (records ++ b)) (bodies_of-append before_head (table_with 6 K.head
        ∷ behind_head))
        ∙ sym (append_assoc header records (bodies_of before_head ++ rest))
        ∙ sym (append_assoc (header ++ records) (bodies_of before_head) rest)
        ∙ (λ i. ((header_bytes (sym same_count i) ++ flat_map entry_bytes (sym all_records i)) ++ bodies_of before_head)
        ++ rest)

    -- the file with the field as zeros is the one of which the adjustment was taken
    pub without_field-file : without_field (file writing K) (head_at + 8) ≡ file_with writing K K.head
    without_field-file =
        let long = ok.head_size in
        let same = length-with_adjustment (adjustment_in writing K) K.head (omega arith) in
        (λ i. without_field (file_split i) (sym length-before_bytes i + 8))
        ∙ without_field-within before_bytes (padded (last_head writing K)) (bodies_of behind_head)
        (omega (arith, length-padded-is (last_head writing K)))
        ∙ ap (λ (b : List ℕ). before_bytes ++ (b ++ bodies_of behind_head)) zeroed ∙ sym other_split

    -- the field is read back
    pub u32_at-adjustment : u32_at (file writing K) (head_at + 8) ≡ adjustment_in writing K
    unfolding padded
    u32_at-adjustment =
        let long = ok.head_size in
        let same = length-with_adjustment (adjustment_in writing K) K.head (omega arith) in
        let head = last_head writing K in
        let zeros : List ℕ = replicate (padding_of (length head)) 0 in
        let behind : drop head_at (file writing K) ≡ head ++ (zeros ++ bodies_of behind_head) =
        ap (drop head_at) file_split ∙ drop_at before_bytes (padded head ++ bodies_of behind_head) head_at
        length-before_bytes ∙ append_assoc head zeros (bodies_of behind_head) in
        sym (u32_at-drop head_at 8 (file writing K)) ∙ ap (λ (b : List ℕ). u32_at b 8) behind
        ∙ u32_at-append head (zeros ++ bodies_of behind_head) 8 (omega arith)
        ∙ u32_at-with_adjustment (adjustment_in writing K) K.head (omega arith)
