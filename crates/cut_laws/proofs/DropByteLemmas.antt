-- The bytes of a file without some of its tables.
use Rattle.std.proofs.Common.{◌≡◌, ◌∙◌, ℕ, zero, suc, ◌+◌, ◌-◌, ◌*◌, ◌<◌, ◌≤◌, Bool, true, false, cond, List, ◌++◌}
use Rattle.std.proofs.Common.{ap, refl, arith, codes, length, drop, get_or, slice_range}
use Rattle.std.specs.List.{flat_map, range_with_len}
use Rattle.std.proofs.lemmas.List.{length-append, length-drop, length-take, drop-drop, get_or-append-add, get_or-drop}
use Rattle.std.proofs.lemmas.List.{get_or-take, get_or_append_left, take_rest}
use Rattle.std.proofs.Math.Seq.{drop-append-add}
use Rattle.sfnt_bytes.specs.Directory.{HasRecords, table_count, tag_at}
use Rattle.sfnt_bytes.specs.declared.tag.Tag.{Tag}
use Rattle.commands.specs.Drop.{is_tag_among, record_without, without_tables}

module _ (tags : List Tag) (file : List ℕ) (fits : HasRecords file) where
  abbrev count : ℕ
  count = table_count file

  abbrev record_at : ℕ → List ℕ
  record_at = record_without tags file

  abbrev header : List ℕ
  header = slice_range file 0 12

  abbrev end : ℕ
  end = 12 + 16 * count

  -- the tag of a record at a place, or blanks
  abbrev tag_bytes : ℕ → List ℕ
  tag_bytes at = cond (is_tag_among tags (tag_at file at)) (codes "    ") (slice_range file at (at + 4))

  -- a record has 16 bytes
  front_length : (b : Bool) (at : ℕ) → at + 4 ≤ length file
      → length (cond b (codes "    ") (slice_range file at (at + 4))) ≡ 4
  front_length true at low = refl
  front_length false at low =
      let d = length-drop at file in let t = length-take (at + 4 - at) (drop at file) in omega arith

  record_length : (k : ℕ) → k < count → length (record_at k) ≡ 16
  unfolding record_without
  record_length k low =
      let at = 12 + 16 * k in
      let whole : at + 16 ≤ length file = omega (arith, fits, low) in
      let f = front_length (is_tag_among tags (tag_at file at)) at (omega (arith, whole)) in
      let d = length-drop (at + 4) file in
      let t = length-take (at + 16 - (at + 4)) (drop (at + 4) file) in
      length-append (tag_bytes at) _
      ∙ omega (arith, f, d, t, whole)

  records_length : (k m : ℕ) → k + m ≤ count → length (flat_map record_at (range_with_len k m)) ≡ 16 * m
  records_length k zero low = refl
  records_length k (suc m) low =
      let one = record_length k (omega (arith, low)) in
      let more = records_length (k + 1) m (omega (arith, low)) in
      length-append (record_at k) (flat_map record_at (range_with_len (k + 1) m)) ∙ omega (arith, one, more)

  -- each byte of them stands in its record
  in_record : (k m j i : ℕ) → k + m ≤ count → j < m → i < 16
      → get_or (flat_map record_at (range_with_len k m)) (16 * j + i) 0 ≡ get_or (record_at (k + j)) i 0
  in_record k zero j i low inside small = absurd (omega (arith, inside))
  in_record k (suc m) zero i low inside small =
      let one = record_length k (omega (arith, low)) in
      let first : k ≡ k + 0 = omega arith in
      let there : 16 * 0 + i ≡ i = omega arith in
      ap (λ n. get_or (record_at k ++ flat_map record_at (range_with_len (k + 1) m)) n 0) there
      ∙ get_or_append_left (record_at k) (flat_map record_at (range_with_len (k + 1) m)) 0 i (omega (arith, one, small))
      ∙ ap (λ n. get_or (record_at n) i 0) first
  in_record k (suc m) (suc j) i low inside small =
      let one = record_length k (omega (arith, low)) in
      let there : 16 * suc j + i ≡ length (record_at k) + (16 * j + i) = omega (arith, one) in
      let next : k + 1 + j ≡ k + suc j = omega arith in
      ap (λ n. get_or (record_at k ++ flat_map record_at (range_with_len (k + 1) m)) n 0) there
      ∙ get_or-append-add (record_at k) (flat_map record_at (range_with_len (k + 1) m)) (16 * j + i) 0
      ∙ in_record (k + 1) m j i (omega (arith, low)) (omega (arith, inside)) small
      ∙ ap (λ n. get_or (record_at n) i 0) next

  header_length : length header ≡ 12
  header_length = let d = length-drop 0 file in let t = length-take (12 - 0) (drop 0 file) in omega (arith, d, t, fits)

  abbrev directory : List ℕ
  directory = header ++ flat_map record_at (range_with_len 0 count)

  directory_length : length directory ≡ end
  directory_length = length-append header _ ∙ omega (arith, header_length, records_length 0 count (omega arith))

  abbrev rest : List ℕ
  rest = slice_range file end (length file)

  rest_is : rest ≡ drop end file
  rest_is = take_rest file end

  abbrev made : List ℕ
  made = without_tables tags file

  made_is : made ≡ directory ++ rest
  unfolding without_tables
  made_is = refl

  -- the file is as long as it was
  pub length-without : length (without_tables tags file) ≡ length file
  length-without =
      let d = length-drop end file in
      ap length made_is ∙ length-append directory rest
      ∙ omega (arith, directory_length, ap length rest_is, d, fits)

  -- and is what it was after the directory
  pub drop-without : (at : ℕ) → 12 + 16 * table_count file ≤ at → drop at (without_tables tags file) ≡ drop at file
  drop-without at past =
      let there : at ≡ length directory + (at - end) = omega (arith, directory_length, past) in
      let back : end + (at - end) ≡ at = omega (arith, past) in
      ap (drop at) made_is
      ∙ ap (λ n. drop n (directory ++ rest)) there
      ∙ drop-append-add directory rest (at - end)
      ∙ ap (drop (at - end)) rest_is
      ∙ drop-drop (at - end) end file
      ∙ ap (λ n. drop n file) back

  -- the header is what it was
  pub header-without : (i : ℕ) → i < 12 → get_or (without_tables tags file) i 0 ≡ get_or file i 0
  header-without i low =
      ap (λ b. get_or b i 0) made_is
      ∙ get_or_append_left directory rest 0 i (omega (arith, directory_length, low))
      ∙ get_or_append_left header _ 0 i (omega (arith, header_length, low))
      ∙ get_or-take (12 - 0) (drop 0 file) i 0 (omega (arith, low))

  byte-without : (k i : ℕ) → k < count → i < 16
      → get_or (without_tables tags file) (12 + 16 * k + i) 0 ≡ get_or (record_at k) i 0
  byte-without k i low small =
      let there : 12 + 16 * k + i ≡ length header + (16 * k + i) = omega (arith, header_length) in
      let from_zero : 0 + k ≡ k = omega arith in
      ap (λ b. get_or b (12 + 16 * k + i) 0) made_is
      ∙ get_or_append_left directory rest 0 (12 + 16 * k + i) (omega (arith, directory_length, low, small))
      ∙ ap (λ n. get_or directory n 0) there
      ∙ get_or-append-add header _ (16 * k + i) 0
      ∙ in_record 0 count k i (omega arith) low small
      ∙ ap (λ n. get_or (record_at n) i 0) from_zero

  front_byte : (b : Bool) (at i : ℕ) → i < 4
      → get_or (cond b (codes "    ") (slice_range file at (at + 4))) i 0
      ≡ cond b (get_or (codes "    ") i 0) (get_or file (at + i) 0)
  front_byte true at i low = refl
  front_byte false at i low = get_or-take (at + 4 - at) (drop at file) i 0 (omega (arith, low))
      ∙ get_or-drop at file i 0

  -- of a tag that goes blanks stand there, and otherwise the tag
  pub tag_byte-without : (k i : ℕ) → k < table_count file → i < 4
      → get_or (without_tables tags file) (12 + 16 * k + i) 0
      ≡ cond (is_tag_among tags (tag_at file (12 + 16 * k))) (get_or (codes "    ") i 0)
      (get_or file (12 + 16 * k + i) 0)
  unfolding record_without
  tag_byte-without k i low small =
      let at = 12 + 16 * k in
      let f = front_length (is_tag_among tags (tag_at file at)) at (omega (arith, fits, low)) in
      byte-without k i low (omega (arith, small))
      ∙ get_or_append_left (tag_bytes at) _ 0 i
      (omega (arith, f, small))
      ∙ front_byte (is_tag_among tags (tag_at file at)) at i small

  -- the other bytes of a record are what they were
  pub number_byte-without : (k p : ℕ) → k < table_count file → 12 + 16 * k + 4 ≤ p → p < 12 + 16 * k + 16
      → get_or (without_tables tags file) p 0 ≡ get_or file p 0
  unfolding record_without
  number_byte-without k p low from small =
      let at = 12 + 16 * k in
      let i = p - at - 4 in
      let f = front_length (is_tag_among tags (tag_at file at)) at (omega (arith, fits, low)) in
      let place : p ≡ 12 + 16 * k + (p - at) = omega (arith, from) in
      let inner : p - at ≡ length (tag_bytes at) + i =
      omega (arith, f, from) in
      let back : at + 4 + i ≡ p = omega (arith, from) in
      ap (λ n. get_or (without_tables tags file) n 0) place
      ∙ byte-without k (p - at) low (omega (arith, small, from))
      ∙ ap (λ n. get_or (record_at k) n 0) inner
      ∙ get_or-append-add (tag_bytes at) _ i 0
      ∙ get_or-take (at + 16 - (at + 4)) (drop (at + 4) file) i 0 (omega (arith, small, from))
      ∙ get_or-drop (at + 4) file i 0
      ∙ ap (λ n. get_or file n 0) back
