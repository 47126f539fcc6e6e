-- The `cmap` with variation sequences is read as what was written.
use Rattle.std.proofs.Common.{◌≡◌, ℕ, zero, suc, ◌+◌, ◌*◌, ◌≤◌, Bool, true, false, cond, is_none, nat_eq, nat_le}
use Rattle.std.proofs.Common.{nat_lt, List, [], ◌∷◌, ◌++◌, drop, find, length, length-append, map, refl, sym, ap, ◌∙◌}
use Rattle.std.proofs.Common.{arith, Option, Some, None, flat_map}
use Rattle.std.specs.List.{filter_map, range_with_len}
use Rattle.std.specs.Option.{option_and_then, option_map_or}
use Rattle.std.proofs.lemmas.Bool.{cond-false, cond-true, cond_both, le-leb, le-ltb, ne_eqb}
use Rattle.std.proofs.lemmas.List.{append-nil, drop_at}
use Rattle.sfnt_bytes.specs.Lines.{first_of_lines, when}
use Rattle.sfnt_bytes.specs.Number.{u16_at, u32_at}
use Rattle.codes.specs.CharacterMap.{clipped}
use Rattle.codes.specs.Runs.{spelled}
use Rattle.codes.specs.declared.runs.Run.{Run}
use Rattle.cmap_subtables.specs.Format12.{glyph_along, group_count, group_glyph, group_in, groups_of, holds}
use Rattle.cmap_subtables.specs.declared.format12.ListedGroup.{ListedGroup}
use Rattle.font_map.specs.Cmap.{candidate_of, chosen_of, chosen_record, encoding_count, is_candidate, is_malformed}
use Rattle.font_map.specs.Cmap.{subtable_at}
use Rattle.font_map.specs.Mapping.{listed_glyph, mapping_of}
use Rattle.font_map.specs.Refusals.{map_fault}
use Rattle.font_map.specs.declared.mapping.MapError.TheVariants.{BadCmap, NoMapping}
use Rattle.font_map.proofs.MappingLemmas.{mapping_of-chosen}
use Rattle.variation_sequences.specs.Encoding.{encoding_record_count, from_subtable, has_later_record, if_strict}
use Rattle.variation_sequences.specs.Encoding.{is_sequence_record, sole_record, subtable_of, whole_subtable}
use Rattle.variation_sequences.specs.Pairs.{pair_of, sequence_pairs}
use Rattle.variation_sequences.specs.Sequences.{entries_of}
use Rattle.variation_sequences.specs.Strict.{is_strict}
use Rattle.variation_sequences.proofs.ReadBackLemmas.{read_back}
use Rattle.variation_sequences.specs.Written as Written
use Rattle.variation_sequences.specs.Written.{AreOrdered}
use Rattle.variation_sequences.specs.declared.variant.Pair.{Pair}
use Rattle.font_variations.proofs.NumberLemmas.{u32_at-front}
use Rattle.font_theory.specs.Bytes.{bytes32}
use Rattle.font_theory.specs.File.{IsWriting, Writing, cmap_bytes, cmap_of_three, cmap_with_sequences, group_bytes}
use Rattle.font_theory.specs.File.{sequence_front}
use Rattle.font_theory.proofs.CmapLemmas.{length-groups_bytes, length-subtable_bytes, listed_glyph-subtable_bytes}
use Rattle.font_theory.proofs.CmapLemmas.{subtable_bytes}
use Rattle.font_theory.specs.SequenceTable.{MAX_PAIRS, sequence_table, sequences_in, sequences_of_font}
use Rattle.font_theory.proofs.SequenceTableLemmas.{AreAmong, ordered, pairs_back, sequences_in-among}

-- the third record is chosen
chosen-third : (runs : List Run) (t : List ℕ) → chosen_record (cmap_of_three runs t) ≡ Some 2
unfolding chosen_record candidate_of encoding_count is_candidate subtable_at u16_at u32_at cmap_of_three sequence_front
chosen-third runs t =
    let b = cmap_of_three runs t in
    let first : nat_lt (length b) 4 ≡ false = le-ltb _ _ (omega arith) in
    let second : nat_le 12 (length b) ≡ true = le-leb _ _ (omega arith) in
    let third : nat_le 20 (length b) ≡ true = le-leb _ _ (omega arith) in
    let fourth : nat_le 28 (length b) ≡ true = le-leb _ _ (omega arith) in
    let fifth : nat_le 2 (length (drop 28 b)) ≡ true = le-leb _ _ (omega arith) in
    rw (first, second, third, fourth, fifth) refl

subtable-third : (runs : List Run) (t : List ℕ) → subtable_at (cmap_of_three runs t) 2 ≡ subtable_bytes runs ++ t
unfolding subtable_at u32_at cmap_of_three sequence_front subtable_bytes
subtable-third runs t = refl

pub third_chosen : (runs : List Run) (t : List ℕ) → (chosen_of (cmap_of_three runs t) ≡ (3, 10, 12))
    × (subtable_at (cmap_of_three runs t) 0 ≡ subtable_at (cmap_of_three runs t) 2)
unfolding chosen_of subtable_at u16_at u32_at cmap_of_three sequence_front
third_chosen runs t =
    let b = cmap_of_three runs t in (
      ap (λ o. option_map_or (λ k. (u16_at b (4 + 8 * k), u16_at b (6 + 8 * k), u16_at (subtable_at b k) 0)) o
          (0, 0, 0)) (chosen-third runs t),
      refl,
    )

-- bytes after a subtable of groups change nothing that is read of it
module _ (runs : List Run) (t : List ℕ) where
  abbrev s : List ℕ
  s = subtable_bytes runs

  format_of : u16_at (s ++ t) 0 ≡ u16_at s 0
  unfolding u16_at subtable_bytes
  format_of = refl

  count_of : group_count (s ++ t) ≡ group_count s
  unfolding group_count u32_at subtable_bytes
  count_of = refl

  count_is : group_count s ≡ length runs
  unfolding group_count u32_at subtable_bytes
  count_is = omega arith

  same_groups : (k n : ℕ) → 16 + 12 * (k + n) ≤ length s
      → map (group_in (s ++ t)) (range_with_len k n) ≡ map (group_in s) (range_with_len k n)
  unfolding group_in
  same_groups k zero h = refl
  same_groups k (suc n) h =
      let first = u32_at-front s t (16 + 12 * k) (omega (arith, h)) in
      let second = u32_at-front s t (20 + 12 * k) (omega (arith, h)) in
      let third = u32_at-front s t (24 + 12 * k) (omega (arith, h)) in
      let rest = same_groups (k + 1) n (omega (arith, h)) in
      λ i. record { first = first i; last = second i; glyph = third i } ∷ rest i

  groups_same : groups_of (s ++ t) ≡ groups_of s
  unfolding groups_of
  groups_same =
      ap (λ (n : ℕ). map (group_in (s ++ t)) (range_with_len 0 n)) count_of
      ∙ same_groups 0 (group_count s) (omega (arith, count_is, length-subtable_bytes runs))

  listed_same : (c : ℕ) → listed_glyph (s ++ t) c ≡ listed_glyph s c
  unfolding listed_glyph group_glyph u16_at subtable_bytes
  listed_same c =
      ap (λ (groups : List ListedGroup). option_map_or (λ group. glyph_along group c) (find (holds c) groups) 0)
      groups_same

  not_4 : nat_eq (u16_at (s ++ t) 0) 4 ≡ false
  unfolding u16_at subtable_bytes
  not_4 = refl

  fine : is_malformed (s ++ t) ≡ false
  unfolding is_malformed
  fine =
      let b : List ℕ = s ++ t in
      let long : length b ≡ 16 + 12 * length runs + length t =
      length-append s t ∙ ap (λ (n : ℕ). n + length t) (length-subtable_bytes runs) in
      let count : group_count b ≡ length runs = count_of ∙ count_is in
      let first : nat_lt (length b) 16 ≡ false = le-ltb _ _ (omega (arith, long)) in
      let second : nat_lt (length b) (16 + 12 * group_count b) ≡ false = le-ltb _ _ (omega (arith, long, count)) in
      let format = not_4 in rw (first, second, format) refl

-- so it is accepted, and maps by its groups
accepted_with : (runs : List Run) (t : List ℕ) → map_fault (cmap_of_three runs t) ≡ None
unfolding map_fault
accepted_with runs t =
    let b = cmap_of_three runs t in
    let well : is_malformed (subtable_at b 2) ≡ false = ap is_malformed (subtable-third runs t) ∙ fine runs t in
    (λ i. first_of_lines (when (is_none (chosen-third runs t i)) NoMapping
    ∷ when (option_map_or (λ j. is_malformed (subtable_at b j)) (chosen-third runs t i) false) BadCmap ∷ []))
    ∙ ap (λ (x : Bool). first_of_lines (None ∷ when x BadCmap ∷ [])) well

maps_with : (runs : List Run) (t : List ℕ) (glyphs : ℕ)
    → mapping_of (cmap_of_three runs t) glyphs ≡ clipped glyphs (spelled runs)
maps_with runs t glyphs =
    sym (mapping_of-chosen (cmap_of_three runs t) (subtable_bytes runs ++ t) glyphs 2 (chosen-third runs t)
    (sym (subtable-third runs t)))
    ∙ ap (clipped glyphs) (λ i c. (listed_same runs t c ∙ listed_glyph-subtable_bytes runs c) i)

-- so it is in any form
is_cmap : (P : List ℕ → Type 0) (writing : Writing) (runs : List Run) (t : List ℕ) → P (cmap_bytes writing runs)
    → P (cmap_of_three runs t) → P (cmap_with_sequences writing runs t)
unfolding cmap_with_sequences
is_cmap P writing runs t a b =
    cond_both (nat_eq (length t) 0) (cmap_bytes writing runs) (cmap_of_three runs t) P (λ e. a) (λ e. b)

pub accepted_sequenced : (writing : Writing) → IsWriting writing → (runs : List Run) (t : List ℕ)
    → map_fault (cmap_with_sequences writing runs t) ≡ None
accepted_sequenced writing asked runs t =
    is_cmap (λ b. map_fault b ≡ None) writing runs t (asked.accepted runs) (accepted_with runs t)

pub maps_sequenced : (writing : Writing) → IsWriting writing → (runs : List Run) (t : List ℕ) (glyphs : ℕ)
    → mapping_of (cmap_with_sequences writing runs t) glyphs ≡ clipped glyphs (spelled runs)
maps_sequenced writing asked runs t glyphs =
    is_cmap (λ b. mapping_of b glyphs ≡ clipped glyphs (spelled runs)) writing runs t (asked.maps runs glyphs)
    (maps_with runs t glyphs)

-- the second record alone is of sequences
later-none : (runs : List Run) (t : List ℕ) → has_later_record (cmap_of_three runs t) 1 ≡ false
unfolding has_later_record encoding_record_count is_sequence_record u16_at cmap_of_three sequence_front
later-none runs t =
    let b = cmap_of_three runs t in
    let first : nat_lt (length b) 4 ≡ false = le-ltb _ _ (omega arith) in
    let second : nat_le 28 (length b) ≡ true = le-leb _ _ (omega arith) in
    rw (first, second) refl

found-second : (runs : List Run) (t : List ℕ)
    → find (is_sequence_record (cmap_of_three runs t)) (range_with_len 0 (encoding_record_count (cmap_of_three runs t)))
    ≡ Some 1
unfolding encoding_record_count is_sequence_record u16_at cmap_of_three sequence_front
found-second runs t =
    let b = cmap_of_three runs t in
    let first : nat_lt (length b) 4 ≡ false = le-ltb _ _ (omega arith) in
    let second : nat_le 12 (length b) ≡ true = le-leb _ _ (omega arith) in
    let third : nat_le 20 (length b) ≡ true = le-leb _ _ (omega arith) in
    rw (first, second, third) refl

sole-second : (runs : List Run) (t : List ℕ) → sole_record (cmap_of_three runs t) ≡ Some 1
unfolding sole_record
sole-second runs t =
    let b = cmap_of_three runs t in
    ap (option_and_then (λ k. cond (has_later_record b k) None (Some k))) (found-second runs t)
    ∙ ap (λ x. cond x None (Some 1)) (later-none runs t)

length-behind : (runs : List Run)
    → length (flat_map bytes32 (sequence_front (length runs)) ++ flat_map group_bytes runs) ≡ 44 + 12 * length runs
unfolding sequence_front
length-behind runs = let groups = length-groups_bytes runs in omega (arith, groups)

offset-second : (runs : List Run) (t : List ℕ) → u32_at (cmap_of_three runs t) 16 ≡ 44 + 12 * length runs
unfolding u32_at cmap_of_three sequence_front
offset-second runs t = omega arith

from-second : (runs : List Run) (t : List ℕ) → from_subtable (cmap_of_three runs t) 1 ≡ t
unfolding from_subtable cmap_of_three
from-second runs t =
    let front : List ℕ = flat_map bytes32 (sequence_front (length runs)) ++ flat_map group_bytes runs in
    ap (λ (n : ℕ). drop n (front ++ t)) (offset-second runs t)
    ∙ drop_at front t (44 + 12 * length runs) (length-behind runs)

pub sequences_read : (runs : List Run) (pairs : List Pair) → AreOrdered 0 0 pairs → length pairs ≤ MAX_PAIRS
    → subtable_of (cmap_of_three runs (Written.subtable_bytes pairs)) ≡ Some (Written.subtable_bytes pairs)
unfolding subtable_of MAX_PAIRS if_strict
sequences_read runs pairs order few =
    let t : List ℕ = Written.subtable_bytes pairs in
    let b : List ℕ = cmap_of_three runs t in
    let back = read_back pairs order few in
    let whole : whole_subtable t ≡ Some t = ap whole_subtable (sym (append-nil t)) ∙ back.whole [] in
    ap (λ o. option_and_then if_strict (option_and_then (λ k. whole_subtable (from_subtable b k)) o))
    (sole-second runs t)
    ∙ ap (λ (x : List ℕ). option_and_then if_strict (whole_subtable x)) (from-second runs t)
    ∙ ap (option_and_then if_strict) whole
    ∙ cond-true (is_strict t) (Some t) None back.strict

-- a table of pairs is that of a font with its `cmap`
some_bytes : (pairs : List Pair) → nat_eq (length (Written.subtable_bytes pairs)) 0 ≡ false
unfolding Written.subtable_bytes
some_bytes pairs = ne_eqb (length (Written.subtable_bytes pairs)) 0 (λ e. omega (arith, e))

module _ (n : ℕ) (of_code : ℕ → ℕ) (writing : Writing) (asked : IsWriting writing) (runs : List Run) where
  abbrev kept : Option (List ℕ) → List Pair
  kept o = option_map_or (λ s. filter_map (λ e. pair_of n (of_code e.code) e) (entries_of s)) o []

  pub pairs_of_cmap : (pairs : List Pair) → AreAmong n pairs → length pairs ≤ MAX_PAIRS
      → sequence_pairs (cmap_with_sequences writing runs (sequence_table pairs)) of_code n ≡ pairs
  unfolding sequence_pairs sequence_table cmap_with_sequences MAX_PAIRS
  pairs_of_cmap [] r few = ap kept (asked.unsequenced runs)
  pairs_of_cmap (p ∷ ps) r few =
      let pairs : List Pair = p ∷ ps in
      let t : List ℕ = Written.subtable_bytes pairs in
      let order = ordered n 0 0 pairs (omega arith) r in
      ap (λ (b : List ℕ). kept (subtable_of b))
      (cond-false (nat_eq (length t) 0) (cmap_bytes writing runs) (cmap_of_three runs t) (some_bytes pairs))
      ∙ ap kept (sequences_read runs pairs order few)
      ∙ ap (filter_map (λ e. pair_of n (of_code e.code) e)) (read_back pairs order few).entries
      ∙ pairs_back n of_code 0 pairs r

  -- a table that is that of its pairs is read of it
  pub table_of_cmap : (t : List ℕ) → sequence_table (sequences_in n t) ≡ t
      → sequences_of_font (cmap_with_sequences writing runs t) of_code n ≡ t
  table_of_cmap t is =
      let both = sequences_in-among n t in
      ap (λ (b : List ℕ). sequences_of_font (cmap_with_sequences writing runs b) of_code n) (sym is)
      ∙ ap sequence_table (pairs_of_cmap (sequences_in n t) both.0 both.1) ∙ is
