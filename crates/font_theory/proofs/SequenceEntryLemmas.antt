-- The entries of a subtable that is read stand in order.
use Rattle.std.proofs.Common.{◌≡◌, ℕ, zero, suc, ◌+◌, ◌-◌, ◌*◌, ◌<◌, ◌≤◌, true, List, ◌++◌, Option, None, Some, arith}
use Rattle.std.specs.List.{cons_option, filter_map, flat_map, range_with_len}
use Rattle.std.specs.Option.{option_map}
use Rattle.codes.specs.declared.code_points.TheConstants.{CODES}
use Rattle.variation_sequences.specs.Format14.{default_ranges, mappings_of, selector_at, selector_count}
use Rattle.variation_sequences.specs.Sequences.{entries_from_record, entries_in, entries_of, entries_of_record}
use Rattle.variation_sequences.specs.Sequences.{variant_in}
use Rattle.variation_sequences.specs.Strict.{is_strict}
use Rattle.variation_sequences.specs.declared.variant.Entry.{Entry}
use Rattle.variation_sequences.specs.declared.variant.Variant.{Variant}
use Rattle.variation_sequences.proofs.SpanLemmas.{begins_after, stands}
use Rattle.variation_sequences.proofs.StrictLemmas.{strict_selectors}
use Rattle.font_theory.proofs.OrderLemmas.{Rises, rises_from}

-- the place of an entry, as that of a pair
abbrev pub entry_place : Entry → ℕ
entry_place e = CODES * e.selector + e.code

-- no code is above 0x10FFFF
abbrev pub HasCodes : Entry → Type 0
HasCodes e = (e.selector < CODES) × (e.code < CODES)

abbrev entry : ℕ → ℕ → Variant → Entry
entry v c x = record { selector = v; code = c; variant = x }

abbrev said : ℕ → List ℕ → List ℕ → ℕ → Option Entry
said v t u c = option_map (entry v c) (variant_in t u c)

-- what is said of one code, in front of what rises from the next one on
said_first : (v c : ℕ) (o : Option Variant) (xs ys : List Entry) → v < CODES → c < CODES
    → Rises HasCodes entry_place (CODES * v + (c + 1)) (xs ++ ys)
    → Rises HasCodes entry_place (CODES * v + c) (cons_option (option_map (entry v c) o) xs ++ ys)
said_first v c None xs ys a b r =
    rises_from HasCodes entry_place (CODES * v + c) (CODES * v + (c + 1)) (xs ++ ys) (omega arith) r
said_first v c (Some x) xs ys a b r =
    ((a, b), omega arith, rises_from HasCodes entry_place _ (CODES * v + (c + 1)) (xs ++ ys) (omega arith) r)

-- the codes of one selector, in front of what rises from the next one on
codes_rise : (v : ℕ) (t u : List ℕ) (ys : List Entry) → v < CODES
    → Rises HasCodes entry_place (CODES * suc v) ys → (from n : ℕ) → from + n ≡ CODES
    → Rises HasCodes entry_place (CODES * v + from) (filter_map (said v t u) (range_with_len from n) ++ ys)
codes_rise v t u ys a r from zero e =
    rises_from HasCodes entry_place (CODES * v + from) (CODES * suc v) ys (omega (arith, e)) r
codes_rise v t u ys a r from (suc n) e =
    said_first v from (variant_in t u from) (filter_map (said v t u) (range_with_len (from + 1) n)) ys a
    (omega (arith, e)) (codes_rise v t u ys a r (from + 1) n (omega (arith, e)))

-- a variable in place of 0 keeps the list of all codes from being computed
record_rises : (v : ℕ) (t u : List ℕ) (ys : List Entry) (from : ℕ) → v < CODES → from ≤ CODES
    → Rises HasCodes entry_place (CODES * suc v) ys
    → Rises HasCodes entry_place (CODES * v + from) (entries_in v t u from ++ ys)
unfolding entries_in
record_rises v t u ys from a b r = codes_rise v t u ys a r from (CODES - from) (omega (arith, b))

records_rise : (s : List ℕ) → is_strict s ≡ true → (low k n : ℕ) → k + n ≡ selector_count s
    → (0 < n → low ≤ CODES * selector_at s k)
    → Rises HasCodes entry_place low (flat_map (entries_of_record s) (range_with_len k n))
records_rise s t low k zero e h = tt
records_rise s t low k (suc n) e h =
    let order = (strict_selectors s t).order in
    let v = selector_at s k in
    let here = stands (selector_at s) (selector_at s) (selector_count s) k order (omega (arith, e)) in
    let within : v < CODES = here.within in
    let rest = records_rise s t (CODES * suc v) (k + 1) n (omega (arith, e)) (λ some.
    let above : v < selector_at s (k + 1) =
    begins_after (selector_at s) (selector_at s) (selector_count s) k (k + 1) order (omega arith)
    (omega (arith, e, some)) in omega (arith, above)) in
    rises_from HasCodes entry_place low (CODES * v + 0) _ (omega (arith, h (omega arith)))
    (record_rises v (default_ranges s k) (mappings_of s k)
    (flat_map (entries_of_record s) (range_with_len (k + 1) n)) 0 within (omega arith) rest)

pub entries_rise : (s : List ℕ) → is_strict s ≡ true → Rises HasCodes entry_place 0 (entries_of s)
unfolding entries_of entries_from_record
entries_rise s t = records_rise s t 0 0 (selector_count s - 0) (omega arith) (λ some. omega arith)
