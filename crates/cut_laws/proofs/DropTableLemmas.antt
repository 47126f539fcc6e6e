-- The records and the tables of a file without some of its tables: those that stay are what they were.
use Rattle.std.proofs.Common.{◌≡◌, ◌∙◌, ℕ, zero, suc, ◌+◌, ◌-◌, ◌*◌, ◌<◌, ◌≤◌, Bool, true, false, cond, List, [], ◌∷◌}
use Rattle.std.proofs.Common.{Some, None}
use Rattle.std.proofs.Common.{ap, refl, subst, sym, arith, codes, get_or, take, map, find, not, nat_lt, Option}
use Rattle.std.specs.List.{count_by, range_with_len}
use Rattle.std.specs.Option.{option_map, option_map_or}
use Rattle.std.specs.Prelude.{IfSome, nat_le}
use Rattle.std.proofs.lemmas.Bool.{agree_below_at, both_ways}
use Rattle.std.proofs.lemmas.List.Sums.{sum_by-cons}
use Rattle.std.proofs.lemmas.Slice.Eq.{bytes_eq-Decides}
use Rattle.sfnt_bytes.specs.Directory.{HasRecords, entry_at, has_tag, kept_tag, records_of, slot_tag, table_bytes}
use Rattle.sfnt_bytes.specs.Directory.{table_count, table_entry, table_of, tag_at}
use Rattle.sfnt_bytes.specs.Number.{number, u16_at, u32_at}
use Rattle.sfnt_bytes.specs.Refusals.{is_duplicate, is_outside}
use Rattle.sfnt_bytes.specs.Tag.{same_tag}
use Rattle.sfnt_bytes.specs.declared.records.Entry.{Entry}
use Rattle.sfnt_bytes.specs.declared.tag.Tag.{Tag}
use Rattle.sfnt_bytes.specs.declared.tag.TheConstants.{ALL_SLOTS}
use Rattle.commands.specs.Drop.{is_tag_among, without_tables}
use Rattle.cut_laws.specs.Dropping.{Stays}
use Rattle.cut_laws.proofs.DropByteLemmas.{drop-without, header-without, length-without, number_byte-without}
use Rattle.cut_laws.proofs.DropByteLemmas.{tag_byte-without}

-- what stands for a tag that goes
abbrev blanks : Tag
blanks = record { 0 = codes "    " }

-- no slot has it
pub same_tag-blanks : (slot : ℕ) → slot < ALL_SLOTS → same_tag blanks (slot_tag slot) ≡ false
unfolding kept_tag slot_tag
same_tag-blanks slot low = agree_below_at (λ s. same_tag blanks (slot_tag s)) (λ _. false) ALL_SLOTS slot refl low

-- entries at which a test answers alike, and that are the same where it passes, are found and counted alike
module _ (p : Entry → Bool) (f g : ℕ → Entry) (n : ℕ) (same : (k : ℕ) → k < n → p (f k) ≡ p (g k))
    (is : (k : ℕ) → k < n → p (g k) ≡ true → f k ≡ g k) where
  find-alike : (k m : ℕ) → k + m ≤ n → find p (map f (range_with_len k m)) ≡ find p (map g (range_with_len k m))
  find-alike k zero low = refl
  find-alike k (suc m) low =
      ap (λ b. cond b (Some (f k)) (find p (map f (range_with_len (k + 1) m)))) (same k (omega (arith, low)))
      ∙ by_test (p (g k)) (is k (omega (arith, low))) (find-alike (k + 1) m (omega (arith, low)))
    where
      by_test : {x y : Option Entry} (b : Bool) → (b ≡ true → f k ≡ g k) → x ≡ y
          → cond b (Some (f k)) x ≡ cond b (Some (g k)) y
      by_test true e more = ap Some (e refl)
      by_test false e more = more

  count-alike : (k m : ℕ) → k + m ≤ n
      → count_by p (map f (range_with_len k m)) ≡ count_by p (map g (range_with_len k m))
  count-alike k zero low = refl
  count-alike k (suc m) low =
      let one = same k (omega (arith, low)) in
      let more = count-alike (k + 1) m (omega (arith, low)) in
      sum_by-cons (λ x. cond (p x) 1 0) (f k) (map f (range_with_len (k + 1) m))
      ∙ (λ i. cond (one i) 1 0 + more i)
      ∙ sym (sum_by-cons (λ x. cond (p x) 1 0) (g k) (map g (range_with_len (k + 1) m)))

module _ (tags : List Tag) (file : List ℕ) (fits : HasRecords file) where
  abbrev made : List ℕ
  made = without_tables tags file

  abbrev gone : ℕ → Bool
  gone k = is_tag_among tags (tag_at file (12 + 16 * k))

  -- a number is what it was where its bytes are
  same_number : (at : ℕ) → ((i : ℕ) → at ≤ i → i < at + 4 → get_or made i 0 ≡ get_or file i 0)
      → u32_at made at ≡ u32_at file at
  unfolding u32_at
  same_number at same =
      λ i. number (same at (omega arith) (omega arith) i) (same (at + 1) (omega arith) (omega arith) i)
      (same (at + 2) (omega arith) (omega arith) i) (same (at + 3) (omega arith) (omega arith) i)

  pub version-without : u32_at (without_tables tags file) 0 ≡ u32_at file 0
  version-without = same_number 0 (λ i _ low. header-without tags file fits i (omega (arith, low)))

  pub table_count-without : table_count (without_tables tags file) ≡ table_count file
  unfolding u16_at
  table_count-without = λ i. header-without tags file fits 4 (omega arith) i * 256
      + header-without tags file fits 5 (omega arith) i

  number-same : (k at : ℕ) → k < table_count file → 12 + 16 * k + 4 ≤ at → at + 4 ≤ 12 + 16 * k + 16
      → u32_at made at ≡ u32_at file at
  number-same k at low from to = same_number at
      (λ i past below. number_byte-without tags file fits k i low (omega (arith, from, past))
      (omega (arith, to, below)))

  tag_byte-same : (k i : ℕ) → k < table_count file → gone k ≡ false → i < 4
      → get_or made (12 + 16 * k + i) 0 ≡ get_or file (12 + 16 * k + i) 0
  tag_byte-same k i low e small = tag_byte-without tags file fits k i low small
      ∙ ap (λ b. cond b (get_or (codes "    ") i 0) (get_or file (12 + 16 * k + i) 0)) e

  tag_byte-gone : (k i : ℕ) → k < table_count file → gone k ≡ true → i < 4
      → get_or made (12 + 16 * k + i) 0 ≡ get_or (codes "    ") i 0
  tag_byte-gone k i low e small = tag_byte-without tags file fits k i low small
      ∙ ap (λ b. cond b (get_or (codes "    ") i 0) (get_or file (12 + 16 * k + i) 0)) e

  tag-same : (k : ℕ) → k < table_count file → gone k ≡ false → tag_at made (12 + 16 * k) ≡ tag_at file (12 + 16 * k)
  unfolding tag_at
  tag-same k low e =
      let at = 12 + 16 * k in
      let none : at + 0 ≡ at = omega arith in
      let first : get_or made at 0 ≡ get_or file at 0 =
      subst (λ (p : ℕ). get_or made p 0 ≡ get_or file p 0) none (tag_byte-same k 0 low e (omega arith)) in
      λ i. record {
        0 = first i ∷ tag_byte-same k 1 low e (omega arith) i ∷ tag_byte-same k 2 low e (omega arith) i
            ∷ tag_byte-same k 3 low e (omega arith) i ∷ [];
      }

  tag-gone : (k : ℕ) → k < table_count file → gone k ≡ true → tag_at made (12 + 16 * k) ≡ blanks
  unfolding tag_at
  tag-gone k low e =
      let at = 12 + 16 * k in
      let none : at + 0 ≡ at = omega arith in
      let first : get_or made at 0 ≡ 32 =
      subst (λ (p : ℕ). get_or made p 0 ≡ 32) none (tag_byte-gone k 0 low e (omega arith)) in
      λ i. record {
        0 = first i ∷ tag_byte-gone k 1 low e (omega arith) i ∷ tag_byte-gone k 2 low e (omega arith) i
            ∷ tag_byte-gone k 3 low e (omega arith) i ∷ [];
      }

  entry-same : (k : ℕ) → k < table_count file → gone k ≡ false → entry_at made k ≡ entry_at file k
  unfolding entry_at
  entry-same k low e =
      let at = 12 + 16 * k in
      λ i. record {
        tag = tag-same k low e i;
        checksum = number-same k (at + 4) low (omega arith) (omega arith) i;
        offset = number-same k (at + 8) low (omega arith) (omega arith) i;
        length = number-same k (at + 12) low (omega arith) (omega arith) i;
      }

  -- what is said of the table of a tag that stays
  module _ (tag : Tag) (stays : Stays tags file tag) (letters : same_tag blanks tag ≡ false) where
    -- no record that goes has the tag
    not_gone : (k : ℕ) → gone k ≡ true → has_tag tag (entry_at file k) ≡ false
    unfolding entry_at
    not_gone k e = by_test (same_tag (tag_at file (12 + 16 * k)) tag) refl
      where
        by_test : (b : Bool) → same_tag (tag_at file (12 + 16 * k)) tag ≡ b → b ≡ false
        by_test false same = refl
        by_test true same =
            let is : (tag_at file (12 + 16 * k)).0 ≡ tag.0 =
            (bytes_eq-Decides (tag_at file (12 + 16 * k)).0 tag.0).0 same in
            sym e ∙ ap (λ (t : List ℕ). is_tag_among tags (record { 0 = t })) is ∙ stays.named

    pair : (k : ℕ) → k < table_count file → (b : Bool) → gone k ≡ b
        → (has_tag tag (entry_at made k) ≡ has_tag tag (entry_at file k))
        × (has_tag tag (entry_at file k) ≡ true → entry_at made k ≡ entry_at file k)
    unfolding entry_at
    pair k low true e = (
      ap (λ t. same_tag t tag) (tag-gone k low e) ∙ letters ∙ sym (not_gone k e),
      λ h. absurd (both_ways _ (not_gone k e) h),
    )
    pair k low false e = (ap (has_tag tag) (entry-same k low e), λ _. entry-same k low e)

    pub entry-without : table_entry (without_tables tags file) tag ≡ table_entry file tag
    unfolding table_entry records_of
    entry-without =
        ap (λ n. find (has_tag tag) (map (entry_at made) (range_with_len 0 n))) table_count-without
        ∙ find-alike (has_tag tag) (entry_at made) (entry_at file) (table_count file)
        (λ k low. (pair k low (gone k) refl).0) (λ k low. (pair k low (gone k) refl).1) 0 (table_count file)
        (omega arith)

    pub is_duplicate-without : is_duplicate (without_tables tags file) tag ≡ is_duplicate file tag
    unfolding is_duplicate records_of
    is_duplicate-without =
        ap (nat_lt 1)
        (ap (λ n. count_by (has_tag tag) (map (entry_at made) (range_with_len 0 n))) table_count-without
        ∙ count-alike (has_tag tag) (entry_at made) (entry_at file) (table_count file)
        (λ k low. (pair k low (gone k) refl).0) (λ k low. (pair k low (gone k) refl).1) 0 (table_count file)
        (omega arith))

    pub is_outside-without : is_outside (without_tables tags file) tag ≡ is_outside file tag
    unfolding is_outside
    is_outside-without = λ i. option_map_or
        (λ entry. not (nat_le (entry.offset + entry.length) (length-without tags file fits i))) (entry-without i) false

    pub table-without : table_of (without_tables tags file) tag ≡ table_of file tag
    unfolding table_of
    table-without = ap (option_map (table_bytes made)) entry-without ∙ by_entry (table_entry file tag) stays.past
      where
        by_entry : (o : Option Entry) → IfSome o (λ entry. 12 + 16 * table_count file ≤ entry.offset)
            → option_map (table_bytes made) o ≡ option_map (table_bytes file) o
        by_entry None past = refl
        by_entry (Some entry) past =
            ap (λ b. Some (take (entry.offset + entry.length - entry.offset) b))
            (drop-without tags file fits entry.offset past)
