-- What the parts of two glyphs come to.
use Rattle.std.proofs.Common.{◌≡◌, ℕ, ◌<◌, true, false, List, [], ◌∷◌, None, Some, ap, arith, subst, sym}
use Rattle.variation_sequences.specs.Pairs.{part_of}
use Rattle.variation_sequences.specs.Written.{mapping_bytes, mappings_bytes, record_bytes, subtable_bytes}
use Rattle.variation_sequences.specs.declared.variant.Pair.{Pair}
use Rattle.font_theory.specs.Content.{glyph_count}
use Rattle.font_theory.specs.OrderedPairs.{first_twice, merged, place_of, with_one}
use Rattle.font_theory.specs.Parted.{sequences}
use Rattle.font_theory.specs.SequenceTable.{MAX_PAIRS, have_room, pairs_at, pairs_of_parts, sequence_table}
use Rattle.font_theory.specs.SequenceTable.{sequences_in}
use Rattle.sequence_parts.specs.Clashes.{either_part, first_clash}
use Rattle.sequence_parts.specs.WorkedParts.{WorkedPartsAre, lone_part, with_fe00}
use Rattle.font_theory.proofs.SequenceTableLemmas.{sequences_in-none, sequences_in-table}

-- the part of each glyph
one_read : (code g : ℕ) → code < 0x110000 → 0 < g → g < 3
    → sequences_in 3 (sequence_table (with_fe00 code g ∷ [])) ≡ with_fe00 code g ∷ []
unfolding MAX_PAIRS
one_read code g a b c =
    sequences_in-table 3 (with_fe00 code g ∷ [])
    (record { selector = omega arith; code = omega (arith, a); some = b; low = c }, omega arith, tt) (omega arith)

-- the pairs of two parts
abbrev parts : ℕ → ℕ → ℕ → List ℕ
parts a b = either_part (lone_part a 1) (lone_part b 2)

module _ (a b : ℕ) (a_low : a < 0x110000) (b_low : b < 0x110000) where
  at_none : pairs_at 3 (parts a b) 0 ≡ []
  unfolding part_of
  at_none = ap (λ (ps : List Pair). part_of ps 0) (sequences_in-none 3)

  at_first : pairs_at 3 (parts a b) 1 ≡ with_fe00 a 1 ∷ []
  unfolding part_of sequence_table subtable_bytes record_bytes mappings_bytes mapping_bytes
  at_first = ap (λ (ps : List Pair). part_of ps 1) (one_read a 1 a_low (omega arith) (omega arith))

  at_second : pairs_at 3 (parts a b) 2 ≡ with_fe00 b 2 ∷ []
  unfolding part_of sequence_table subtable_bytes record_bytes mappings_bytes mapping_bytes
  at_second = ap (λ (ps : List Pair). part_of ps 2) (one_read b 2 b_low (omega arith) (omega arith))

  both_pairs : pairs_of_parts 3 (parts a b) ≡ merged (with_fe00 a 1 ∷ []) (with_fe00 b 2 ∷ [])
  unfolding pairs_of_parts with_one
  both_pairs = λ i. merged (at_none i) (merged (at_first i) (merged (at_second i) []))

-- two glyphs with one code, and with two
one_twice : pairs_of_parts 3 (parts 0x30 0x30) ≡ with_fe00 0x30 1 ∷ with_fe00 0x30 2 ∷ []
unfolding with_one place_of
one_twice = both_pairs 0x30 0x30 (omega arith) (omega arith)

two_ordered : pairs_of_parts 3 (parts 0x31 0x30) ≡ with_fe00 0x30 2 ∷ with_fe00 0x31 1 ∷ []
unfolding with_one place_of
two_ordered = both_pairs 0x31 0x30 (omega arith) (omega arith)

worked : (n : ℕ) → 3 ≡ n
    → (have_room (pairs_of_parts n (parts 0x30 0x30)) ≡ false)
    × (have_room (pairs_of_parts n (parts 0x31 0x30)) ≡ true)
    × (sequence_table (pairs_of_parts n (parts 0x31 0x30)) ≡ subtable_bytes (with_fe00 0x30 2 ∷ with_fe00 0x31 1 ∷ []))
unfolding have_room first_twice place_of MAX_PAIRS sequence_table
worked n e =
    subst (λ (k : ℕ). (have_room (pairs_of_parts k (parts 0x30 0x30)) ≡ false)
    × (have_room (pairs_of_parts k (parts 0x31 0x30)) ≡ true)
    × (sequence_table (pairs_of_parts k (parts 0x31 0x30))
    ≡ subtable_bytes (with_fe00 0x30 2 ∷ with_fe00 0x31 1 ∷ []))) e
    (ap have_room one_twice, ap have_room two_ordered, ap sequence_table two_ordered)

named : first_clash 3 (lone_part 0x30 1) (lone_part 0x30 2) ≡ Some (0xFE00, 0x30)
unfolding first_clash first_twice place_of
named = ap first_twice one_twice

none_named : first_clash 3 (lone_part 0x31 1) (lone_part 0x30 2) ≡ None
unfolding first_clash first_twice place_of
none_named = ap first_twice two_ordered

pub worked_parts : WorkedPartsAre
unfolding sequences
worked_parts t e =
    let are = worked (glyph_count t) (sym e) in
    record { one_code = are.0; named = named; two_codes = are.1; none_named = none_named; in_order = are.2 }
