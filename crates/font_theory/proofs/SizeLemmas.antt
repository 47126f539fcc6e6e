-- The length of the file of a content, slot by slot.
use Rattle.std.proofs.Common.{◌≡◌, ℕ, zero, suc, ◌+◌, ◌%◌, cond, nat_eq, List, [], ◌∷◌, length, map, sum, unwrap_or}
use Rattle.std.proofs.Common.{refl, sym, ap, subst, ◌∙◌, arith, Option, Some, None, option_map, inl, inr}
use Rattle.std.specs.List.{concat, range_with_len}
use Rattle.std.proofs.lemmas.Bool.{cases_eq, ne_eqb}
use Rattle.std.proofs.lemmas.List.{length-append}
use Rattle.std.proofs.lemmas.List.Sums.{sum_by-cons}
use Rattle.sfnt_bytes.specs.declared.tag.TheConstants.{ALL_SLOTS}
use Rattle.sfnt_bytes.specs.Findings.{padding_of}
use Rattle.sfnt_bytes.specs.Lines.{said_lines}
use Rattle.font_theory.specs.Bytes.{padded}
use Rattle.font_theory.specs.Content.{Content, IsWritable, glyph_count}
use Rattle.font_theory.specs.File.{Writing, adjustment_in, bodies_of, bytes_in_slot, cmap_of_content, file, glyf_bytes}
use Rattle.font_theory.specs.File.{loca_bytes, outlines_from, outlines_of, padded_length, size_of, table_at_place}
use Rattle.font_theory.specs.File.{tables_from}
use Rattle.sfnt_bytes.specs.Directory.{slot_at}
use Rattle.font_theory.proofs.AdjustmentLemmas.{length-with_adjustment}
use Rattle.font_theory.proofs.MeaningLemmas.{file-is, last_head, last_tables}
use Rattle.font_theory.proofs.OutlineLemmas.{length-loca_bytes, length-outlines_of}
use Rattle.font_theory.proofs.PaddedLemmas.{length-padded, padded-nil, padded-same}
use Rattle.font_theory.proofs.PaddingLemmas.{length-padded-is}
use Rattle.font_theory.proofs.RecordLemmas.{Each, length-file_of}
use Rattle.font_theory.proofs.SlotLemmas.{are_tables, table_with}

-- the sum of a measure of n slots from one on
abbrev pub total : (ℕ → ℕ) → ℕ → ℕ → ℕ
total h k zero = 0
total h k (suc n) = h k + total h (k + 1) n

pub sum-map : (h : ℕ → ℕ) (k n : ℕ) → sum (map h (range_with_len k n)) ≡ total h k n
sum-map h k zero = refl
sum-map h k (suc n) = sum_by-cons (λ x. x) (h k) (map h (range_with_len (k + 1) n))
    ∙ ap (λ (x : ℕ). h k + x) (sum-map h (k + 1) n)

total-add : (f g h : ℕ → ℕ) (k n : ℕ) → ((slot : ℕ) → f slot ≡ g slot + h slot) → total f k n ≡ total g k n
    + total h k n
total-add f g h k zero is = refl
total-add f g h k (suc n) is = omega (arith, is k, total-add f g h (k + 1) n is)

-- a table counts one
abbrev pub one_of : Option (List ℕ) → ℕ
one_of None = 0
one_of (Some b) = 1

pub length-said_lines-total : (f : ℕ → Option (List ℕ)) (k n : ℕ) → length (said_lines (map f (range_with_len k n)))
    ≡ total (λ slot. one_of (f slot)) k n
length-said_lines-total f k zero = refl
length-said_lines-total f k (suc n) = step (f k) (map f (range_with_len (k + 1) n))
    ∙ ap (λ (x : ℕ). one_of (f k) + x) (length-said_lines-total f (k + 1) n)
  where
    step : (o : Option (List ℕ)) (rest : List (Option (List ℕ))) → length (said_lines (o ∷ rest)) ≡ one_of o
        + length (said_lines rest)
    step None rest = omega arith
    step (Some b) rest = omega arith

module _ (writing : Writing) (K : Content) (head : List ℕ) where
  length-tables : (k n : ℕ) → length (tables_from writing K head k n)
      ≡ total (λ place. one_of (bytes_in_slot writing K head (slot_at place))) k n
  length-tables k zero = refl
  length-tables k (suc n) = step (bytes_in_slot writing K head (slot_at k))
      ∙ ap (λ (x : ℕ). one_of (bytes_in_slot writing K head (slot_at k)) + x) (length-tables (k + 1) n)
    where
      step : (o : Option (List ℕ))
          → length (said_lines (option_map (table_with (slot_at k)) o ∷ map (table_at_place writing K head)
          (range_with_len (k + 1) n))) ≡ one_of o + length (tables_from writing K head (k + 1) n)
      step None = omega arith
      step (Some b) = omega arith

  length-bodies : (k n : ℕ) → length (bodies_of (tables_from writing K head k n))
      ≡ total (λ place. padded_length (bytes_in_slot writing K head (slot_at place))) k n
  length-bodies k zero = refl
  length-bodies k (suc n) = step (bytes_in_slot writing K head (slot_at k))
      ∙ ap (λ (x : ℕ). padded_length (bytes_in_slot writing K head (slot_at k)) + x) (length-bodies (k + 1) n)
    where
      step : (o : Option (List ℕ))
          → length (bodies_of (said_lines (option_map (table_with (slot_at k)) o ∷ map (table_at_place writing K head)
          (range_with_len (k + 1) n)))) ≡ padded_length o + length (bodies_of (tables_from writing K head (k + 1) n))
      step None = omega arith
      step (Some b) = length-append (padded b) (bodies_of (tables_from writing K head (k + 1) n))

-- what the four made tables add
abbrev extra : ℕ → ℕ → ℕ → ℕ → ℕ → ℕ
extra a b c d slot = cond (nat_eq slot 1) a (cond (nat_eq slot 5) b (cond (nat_eq slot 6) c (cond (nat_eq slot 9) d 0)))

total-extra : (a b c d : ℕ) → total (extra a b c d) 0 ALL_SLOTS ≡ a + b + c + d
total-extra a b c d = omega arith

-- a measure of a slot is that of the copied table, or of one of the four
abbrev IsMeasured : Writing → Content → List ℕ → (Option (List ℕ) → ℕ) → ℕ → Type 0
IsMeasured writing K head m slot = m (bytes_in_slot writing K head slot)
    ≡ m (K.copied slot) + extra (m (Some (cmap_of_content writing K)))
    (m (Some (glyf_bytes writing (outlines_of K)))) (m (Some head)) (m (Some (loca_bytes (outlines_of K)))) slot

none_copied : (x y : ℕ) → x ≡ 0 → y ≡ x + y
none_copied x y none = omega arith

none_made : (x : ℕ) → x ≡ x + 0
none_made x = omega arith

is_measured : (writing : Writing) (K : Content) (head : List ℕ) (m : Option (List ℕ) → ℕ) (slot : ℕ) → IsWritable K
    → m None ≡ 0 → IsMeasured writing K head m slot
unfolding bytes_in_slot
is_measured writing K head m slot ok none =
    elim (cases_eq slot 1) [
      | inl e ↦ subst (IsMeasured writing K head m) (sym e) (none_copied (m (K.copied 1)) _ (ap m (ok.slots 1 refl)
          ∙ none))
      | inr n1 ↦ elim (cases_eq slot 5) [
        | inl e ↦ subst (IsMeasured writing K head m) (sym e) (none_copied (m (K.copied 5)) _ (ap m (ok.slots 5 refl)
            ∙ none))
        | inr n5 ↦ elim (cases_eq slot 6) [
          | inl e ↦ subst (IsMeasured writing K head m) (sym e) (none_copied (m (K.copied 6)) _ (ap m (ok.slots 6 refl)
              ∙ none))
          | inr n6 ↦ elim (cases_eq slot 9) [
            | inl e ↦ subst (IsMeasured writing K head m) (sym e)
                (none_copied (m (K.copied 9)) _ (ap m (ok.slots 9 refl) ∙ none))
            | inr n9 ↦
                let e1 = ne_eqb slot 1 n1 in let e5 = ne_eqb slot 5 n5 in let e6 = ne_eqb slot 6 n6 in let e9 =
                ne_eqb slot 9 n9 in
                rw (e1, e5, e6, e9) (none_made (m (K.copied slot)))
          ]
        ]
      ]
    ]

-- the places have all slots
total-places : (h : ℕ → ℕ) → total (λ place. h (slot_at place)) 0 ALL_SLOTS ≡ total h 0 ALL_SLOTS
unfolding slot_at
total-places h = omega arith

-- all slots
total-slots : (writing : Writing) (K : Content) (head : List ℕ) (m : Option (List ℕ) → ℕ) → IsWritable K → m None ≡ 0
    → total (λ place. m (bytes_in_slot writing K head (slot_at place))) 0 ALL_SLOTS
    ≡ total (λ slot. m (K.copied slot)) 0 ALL_SLOTS + (m (Some (cmap_of_content writing K))
    + m (Some (glyf_bytes writing (outlines_of K))) + m (Some head) + m (Some (loca_bytes (outlines_of K))))
total-slots writing K head m ok none =
    let a = m (Some (cmap_of_content writing K)) in
    let b = m (Some (glyf_bytes writing (outlines_of K))) in
    let c = m (Some head) in
    let d = m (Some (loca_bytes (outlines_of K))) in
    total-places (λ slot. m (bytes_in_slot writing K head slot))
    ∙ total-add (λ slot. m (bytes_in_slot writing K head slot)) (λ slot. m (K.copied slot)) (extra a b c d) 0 ALL_SLOTS
    (λ slot. is_measured writing K head m slot ok none)
    ∙ ap (λ (n : ℕ). total (λ slot. m (K.copied slot)) 0 ALL_SLOTS + n) (total-extra a b c d)

-- how many tables are written
pub length-last_tables : (writing : Writing) (K : Content) → IsWritable K → length (last_tables writing K) ≡ 4
    + length (said_lines (map K.copied (range_with_len 0 ALL_SLOTS)))
length-last_tables writing K ok =
    let all = length-tables writing K (last_head writing K) 0 ALL_SLOTS in
    let copied = length-said_lines-total K.copied 0 ALL_SLOTS in
    let parts = total-slots writing K (last_head writing K) one_of ok refl in
    omega (arith, all, copied, parts)

pub length-last_bodies : (writing : Writing) (K : Content) → IsWritable K → length (bodies_of (last_tables writing K))
    ≡ sum (map (λ slot. padded_length (K.copied slot)) (range_with_len 0 ALL_SLOTS))
    + (length (padded (cmap_of_content writing K)) + length (padded (glyf_bytes writing (outlines_of K)))
    + length (padded K.head) + length (padded (loca_bytes (outlines_of K))))
length-last_bodies writing K ok =
    let long = ok.head_size in
    let all = length-bodies writing K (last_head writing K) 0 ALL_SLOTS in
    let copied = sum-map (λ slot. padded_length (K.copied slot)) 0 ALL_SLOTS in
    let parts = total-slots writing K (last_head writing K) padded_length ok refl in
    let same = length-with_adjustment (adjustment_in writing K) K.head (omega arith) in
    let head : length (padded (last_head writing K)) ≡ length (padded K.head) =
    length-padded-is (last_head writing K) ∙ (λ i. same i + padding_of (same i)) ∙ sym (length-padded-is K.head) in
    omega (arith, all, copied, parts, head)

-- the length of a file
pub length-file : (writing : Writing) (K : Content) → IsWritable K → length (file writing K) ≡ size_of writing K
unfolding size_of
length-file writing K ok =
    let whole = ap (λ (b : List ℕ). length b) (file-is writing K)
    ∙ length-file_of (last_tables writing K) (are_tables writing K (last_head writing K)) in
    let count = length-last_tables writing K ok in
    let bodies = length-last_bodies writing K ok in
    let loca_long = length-loca_bytes (outlines_of K) in
    let loca = ap (λ (b : List ℕ). length b) (padded-same (loca_bytes (outlines_of K)) (omega arith)) in
    let glyphs = length-outlines_of K in
    omega (arith, whole, count, bodies, loca, loca_long, glyphs)

-- outlines that are padded one by one need no padding together
pub length-concat-whole : (outlines : List (List ℕ)) → Each (λ outline. padded outline ≡ outline) outlines
    → (length (concat outlines) % 4 ≡ 0) × (length (concat outlines) ≡ sum (map length outlines))
length-concat-whole [] each = (refl, refl)
length-concat-whole (outline ∷ outlines) each =
    let rest = length-concat-whole outlines each.1 in
    let whole = length-padded outline in
    let same = ap (λ (b : List ℕ). length b) each.0 in
    let both = length-append outline (concat outlines) in
    let first = rest.0 in let second = rest.1 in
    let all = sum_by-cons (λ x. x) (length outline) (map length outlines) in
    (omega arith, omega arith)

record_in-padded : (o : Option (List ℕ)) → ((b : List ℕ) → o ≡ Some b → padded b ≡ b)
    → padded (unwrap_or o []) ≡ unwrap_or o []
record_in-padded None h = padded-nil
record_in-padded (Some b) h = h b refl

pub outlines-padded : (K : Content) → ((g : ℕ) (b : List ℕ) → K.outline g ≡ Some b → padded b ≡ b) → (g n : ℕ)
    → Each (λ outline. padded outline ≡ outline) (outlines_from K g n)
outlines-padded K h g zero = tt
outlines-padded K h g (suc n) = (record_in-padded (K.outline g) (h g), outlines-padded K h (g + 1) n)

pub length-padded-outlines : (K : Content) → ((g : ℕ) (b : List ℕ) → K.outline g ≡ Some b → padded b ≡ b)
    → length (padded (concat (outlines_of K))) ≡ sum (map length (outlines_of K))
unfolding outlines_of
length-padded-outlines K h =
    let both = length-concat-whole (outlines_of K) (outlines-padded K h 0 (glyph_count K.copied)) in
    ap (λ (b : List ℕ). length b) (padded-same (concat (outlines_of K)) both.0) ∙ both.1
