-- What is read of the table of a font.
use Rattle.std.proofs.Common.{◌≡◌, ℕ, ◌<◌, ◌≤◌, Bool, true, false, cond, List, [], length, Option, None, Some, refl, ap}
use Rattle.std.proofs.Common.{subst, sym, arith}
use Rattle.std.specs.List.{filter_map}
use Rattle.std.specs.Option.{is_some, option_and_then, option_map_or, unwrap_or}
use Rattle.std.proofs.lemmas.Bool.{both_ways}
use Rattle.variation_sequences.specs.Encoding.{from_subtable, if_strict, sole_record, subtable_of, whole_subtable}
use Rattle.variation_sequences.specs.Pairs.{pair_of, sequence_pairs}
use Rattle.variation_sequences.specs.Sequences.{entries_of}
use Rattle.variation_sequences.specs.Strict.{is_strict}
use Rattle.font_theory.specs.SequenceTable.{MAX_PAIRS, is_bad_sequences, sequence_table, sequences_in}
use Rattle.font_theory.specs.SequenceTable.{sequences_of_font}
use Rattle.font_theory.proofs.SequencePartLemmas.{good_pairs}
use Rattle.font_theory.proofs.SequenceTableLemmas.{AreAmong, pairs_few, pairs_rise, sequences_in-table}

-- the pairs of a font are in order
abbrev pub IsStrictIfSome : Option (List ℕ) → Type 0
IsStrictIfSome o = (s : List ℕ) → o ≡ Some s → is_strict s ≡ true

strict_if : (s : List ℕ) → IsStrictIfSome (if_strict s)
unfolding if_strict
strict_if s = by_test (is_strict s) refl
  where
    by_test : (b : Bool) → is_strict s ≡ b → IsStrictIfSome (cond b (Some s) None)
    by_test true e r is = subst (λ x. is_strict x ≡ true) (ap (λ o. unwrap_or o r) is) e
    by_test false e r is = absurd (both_ways true (ap is_some (sym is)) refl)

strict_then : (o : Option (List ℕ)) → IsStrictIfSome (option_and_then if_strict o)
strict_then None s is = absurd (both_ways true (ap is_some (sym is)) refl)
strict_then (Some b) s is = strict_if b s is

pub strict_subtable : (cmap : List ℕ) → IsStrictIfSome (subtable_of cmap)
unfolding subtable_of
strict_subtable cmap = strict_then (option_and_then (λ k. whole_subtable (from_subtable cmap k)) (sole_record cmap))

pairs_of_some : (n : ℕ) (of_code : ℕ → ℕ) (o : Option (List ℕ)) → ((code : ℕ) → of_code code < n) → IsStrictIfSome o
    → AreAmong n (option_map_or (λ s. filter_map (λ e. pair_of n (of_code e.code) e) (entries_of s)) o [])
    × (length (option_map_or (λ s. filter_map (λ e. pair_of n (of_code e.code) e) (entries_of s)) o []) ≤ MAX_PAIRS)
pairs_of_some n of_code None below strict = (tt, omega arith)
pairs_of_some n of_code (Some s) below strict =
    (pairs_rise n of_code (λ c some. below c) s (strict s refl), pairs_few n of_code s (strict s refl))

font_pairs : (n : ℕ) (of_code : ℕ → ℕ) (cmap : List ℕ) → ((code : ℕ) → of_code code < n)
    → AreAmong n (sequence_pairs cmap of_code n) × (length (sequence_pairs cmap of_code n) ≤ MAX_PAIRS)
unfolding sequence_pairs
font_pairs n of_code cmap below = pairs_of_some n of_code (subtable_of cmap) below (strict_subtable cmap)

pub font_read : (n : ℕ) (of_code : ℕ → ℕ) (cmap : List ℕ) → ((code : ℕ) → of_code code < n)
    → sequences_in n (sequence_table (sequence_pairs cmap of_code n)) ≡ sequence_pairs cmap of_code n
font_read n of_code cmap below =
    let both = font_pairs n of_code cmap below in
    sequences_in-table n (sequence_pairs cmap of_code n) both.0 both.1

-- so it is not bad
pub good_font : (n : ℕ) (of_code : ℕ → ℕ) (cmap : List ℕ) → ((code : ℕ) → of_code code < n)
    → is_bad_sequences (sequences_of_font cmap of_code n) n ≡ false
good_font n of_code cmap below =
    let both = font_pairs n of_code cmap below in good_pairs n (sequence_pairs cmap of_code n) both.0 both.1
