-- Which subtables are read: those in which all is in order and in place (OpenType 1.9, cmap, Format 14: Unicode
-- variation sequences; how strictly is this project's own).
use Rattle.std.specs.Prelude.{ℕ, ◌+◌, ◌*◌, nat_le, not, Bool, ◌&&◌, List, length, sum_by, is_some, Option}
use Rattle.std.specs.List.{list_all, range_with_len}
use Rattle.variation_sequences.specs.Format14.{default_ranges, list_count, mapping_code, mappings_of}
use Rattle.variation_sequences.specs.Format14.{range_first, range_last, range_more, selector_at, selector_count}
use Rattle.variation_sequences.specs.Spans.{are_ascending, member_with}
use Rattle.variation_sequences.specs.declared.strict.TheConstants.{MAX_ENTRIES}

-- all records lie within the bytes
abbrev pub has_records : List ℕ → Bool
has_records s = nat_le (10 + 11 * selector_count s) (length s)

-- all ranges of a default table lie within the bytes
abbrev pub has_ranges : List ℕ → Bool
has_ranges t = nat_le (4 + 4 * list_count t) (length t)

-- all mappings of a non-default table do
abbrev pub has_mappings : List ℕ → Bool
has_mappings u = nat_le (4 + 5 * list_count u) (length u)

-- both tables of record k do
unfoldable pub has_lists : List ℕ → ℕ → Bool
has_lists s k = has_ranges (default_ranges s k) && has_mappings (mappings_of s k)

-- the records stand in order of their selectors
abbrev pub has_ordered_selectors : List ℕ → Bool
has_ordered_selectors s = are_ascending (selector_at s) (selector_at s) (selector_count s)

-- the range that has a code
abbrev pub range_with : List ℕ → ℕ → Option ℕ
range_with t c = member_with (range_first t) (range_last t) (list_count t) c

-- the mapping of a code
abbrev pub mapping_with : List ℕ → ℕ → Option ℕ
mapping_with u c = member_with (mapping_code u) (mapping_code u) (list_count u) c

-- no range has the code of a mapping
unfoldable pub is_apart : List ℕ → List ℕ → Bool
is_apart t u = list_all (λ j. not (is_some (range_with t (mapping_code u j)))) (range_with_len 0 (list_count u))

-- the ranges and the mappings of record k stand in order of their codes, and no code is in both
unfoldable pub has_ordered_lists : List ℕ → ℕ → Bool
has_ordered_lists s k = let t = default_ranges s k in let u = mappings_of s k in
    are_ascending (range_first t) (range_last t) (list_count t)
    && are_ascending (mapping_code u) (mapping_code u) (list_count u)
    && is_apart t u

-- how many codes the ranges of a default table have
unfoldable pub codes_in : List ℕ → ℕ
codes_in t = sum_by (λ i. range_more t i + 1) (range_with_len 0 (list_count t))

-- how many entries record k has
unfoldable pub entries_under : List ℕ → ℕ → ℕ
entries_under s k = codes_in (default_ranges s k) + list_count (mappings_of s k)

-- how many entries there are
unfoldable pub entry_count : List ℕ → ℕ
entry_count s = sum_by (entries_under s) (range_with_len 0 (selector_count s))

-- the subtable is read
unfoldable pub is_strict : List ℕ → Bool
is_strict s =
    has_records s && has_ordered_selectors s && list_all (has_lists s) (range_with_len 0 (selector_count s))
    && nat_le (entry_count s) MAX_ENTRIES && list_all (has_ordered_lists s) (range_with_len 0 (selector_count s))
