-- Laws of variation sequences, this project's own, each of them the contract of a function.
use Rattle.std.specs.Prelude.{◌≡◌, ℕ, ◌≤◌, true, List, ◌++◌, find, length, map, Some}
use Rattle.std.specs.Option.{option_map}
use Rattle.variation_sequences.specs.Encoding.{whole_subtable}
use Rattle.variation_sequences.specs.Sequences.{entries_of, is_of, variant_of}
use Rattle.variation_sequences.specs.Strict.{is_strict}
use Rattle.variation_sequences.specs.Written.{AreOrdered, entry_of, subtable_bytes, subtable_size}
use Rattle.variation_sequences.specs.declared.strict.TheConstants.{MAX_ENTRIES}
use Rattle.variation_sequences.specs.declared.variant.Pair.{Pair}

-- what is said of a selector and a code is what is listed for them
abbrev pub FoundIsListed : Type 0
FoundIsListed =
    (s : List ℕ) (v c : ℕ) → is_strict s ≡ true
    → variant_of s v c ≡ option_map (λ e. e.variant) (find (is_of v c) (entries_of s))

-- a subtable that is written has the size that it states
abbrev pub SubtableHasSize : Type 0
SubtableHasSize = (pairs : List Pair) → length (subtable_bytes pairs) ≡ subtable_size pairs

-- what is read of bytes that begin with a subtable that was written: the subtable, which is read, and the pairs
pub record ArePairsReadBack (pairs : List Pair) : Type 0 where
  pub whole : (after : List ℕ) → whole_subtable (subtable_bytes pairs ++ after) ≡ Some (subtable_bytes pairs)
  pub strict : is_strict (subtable_bytes pairs) ≡ true
  pub entries : entries_of (subtable_bytes pairs) ≡ map entry_of pairs

-- pairs in order that are written are read back
abbrev pub SubtableIsReadBack : Type 0
SubtableIsReadBack = (pairs : List Pair) → AreOrdered 0 0 pairs → length pairs ≤ MAX_ENTRIES → ArePairsReadBack pairs
