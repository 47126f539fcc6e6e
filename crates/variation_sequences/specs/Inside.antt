-- Words of private contracts and of proofs: no public clause names them.
use Rattle.std.specs.Prelude.{◌≡◌, ℕ, ◌+◌, ◌*◌, ◌<◌, ◌≤◌, true, List, length, None, Some}
use Rattle.codes.specs.declared.code_points.TheConstants.{CODES}
use Rattle.variation_sequences.specs.Format14.{default_ranges, list_count, mapping_code, mappings_of}
use Rattle.variation_sequences.specs.Format14.{range_first, range_last, selector_count}
use Rattle.variation_sequences.specs.Spans.{are_ascending, member_with}
use Rattle.variation_sequences.specs.Sequences.{variant_in}
use Rattle.variation_sequences.specs.Strict.{has_ordered_selectors}
use Rattle.variation_sequences.specs.declared.variant.Variant.{Variant}

-- both tables of record k lie within the bytes
pub record HasLists (s : List ℕ) (k : ℕ) : Type 0 where
  pub ranges : 4 + 4 * list_count (default_ranges s k) ≤ length (default_ranges s k)
  pub mappings : 4 + 5 * list_count (mappings_of s k) ≤ length (mappings_of s k)

-- the records of a subtable that is read
pub record HasSelectors (s : List ℕ) : Type 0 where
  pub room : 10 + 11 * selector_count s ≤ length s
  pub order : has_ordered_selectors s ≡ true

-- record k of a subtable that is read
pub record IsSelectorRecord (s : List ℕ) (k : ℕ) : Type 0 where
  pub room : 21 + 11 * k ≤ length s
  pub lists : HasLists s k
  pub range_order :
      are_ascending (range_first (default_ranges s k)) (range_last (default_ranges s k))
      (list_count (default_ranges s k)) ≡ true
  pub mapping_order :
      are_ascending (mapping_code (mappings_of s k)) (mapping_code (mappings_of s k)) (list_count (mappings_of s k))
      ≡ true

-- the least code, from one on, that a member has: that at a place; CODES where there is none
pub record IsNextCode (first last : ℕ → ℕ) (n from place code : ℕ) : Type 0 where
  pub within : code ≤ CODES
  pub from_on : code < CODES → from ≤ code
  pub passed : (c : ℕ) → from ≤ c → c < code → member_with first last n c ≡ None
  pub here : code < CODES → member_with first last n code ≡ Some place
  pub there : code < CODES → place < n

-- the least code, from one on, of which two tables say something, and what they say
pub record IsFirstVariant (t u : List ℕ) (from code : ℕ) (variant : Variant) : Type 0 where
  pub from_on : from ≤ code
  pub within : code < CODES
  pub passed : (c : ℕ) → from ≤ c → c < code → variant_in t u c ≡ None
  pub here : variant_in t u code ≡ Some variant

-- two tables say nothing of the codes from one on
abbrev pub NoVariant : List ℕ → List ℕ → ℕ → Type 0
NoVariant t u from = (c : ℕ) → from ≤ c → c < CODES → variant_in t u c ≡ None
