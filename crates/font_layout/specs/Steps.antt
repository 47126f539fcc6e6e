-- A walk through all that a GSUB has (OpenType 1.9, GSUB and OpenType Layout Common Table Formats). An offset
-- of 0 leads to nothing.
use Rattle.std.specs.Prelude.{ℕ, ◌+◌, ◌-◌, ◌*◌, nat_eq, nat_lt, Bool, ◌||◌, not, List, [], ◌∷◌, length, map}
use Rattle.std.specs.Prelude.{if◌then◌else◌, Option, Some, None}
use Rattle.std.specs.List.{flat_map, range_with_len}
use Rattle.std.specs.Option.{option_map, option_and_then, option_map_or, unwrap_or}
use Rattle.sfnt_bytes.specs.Number.{u16_at, u32_at}
use Rattle.font_layout.specs.Counted.{counted}
use Rattle.font_layout.specs.Coverage.{coverage_at, no_coverage, span_at}
use Rattle.font_layout.specs.Rule.{entry_step, rule_at, rule_entry}
use Rattle.font_layout.specs.declared.coverage.Span.{Span}
use Rattle.font_layout.specs.declared.lookup.Lookup.{Lookup}
use Rattle.font_layout.specs.declared.rule.Rule.{Rule}
use Rattle.font_layout.specs.declared.rule.Rule.TheVariants.{Shift}
use Rattle.font_layout.specs.declared.lookup_subtable.Subtable.{Subtable}
use Rattle.font_layout.specs.declared.step.Step.{Step}
use Rattle.font_layout.specs.declared.step.Step.TheVariants.{Part, Fault}

-- the steps through the numbers 0, 1, .. below n
abbrev pub each_below : ℕ → (ℕ → List Step) → List Step
each_below n steps = flat_map steps (range_with_len 0 n)

-- a step for what is gone into, with the offsets that lead to it, and those within; a fault where it is not there
abbrev pub steps_within : {X : Type 0} → Option X → (X → ℕ) → (X → List Step) → List Step
steps_within there offsets steps = option_map_or (λ x. Part (offsets x) ∷ steps x) there (Fault ∷ [])

-- glyph k of a span, with the offsets of its entry, and what its entry leads to
unfoldable pub glyph_steps : List ℕ → Rule → Span → ℕ → List Step
glyph_steps table rule span k =
    let entry = rule_entry table rule (span.first + k) (span.index + k) in
    Part (1 + entry.offsets) ∷ map (entry_step table (span.first + k) entry.form) (range_with_len 0 entry.count)

-- span k of the Coverage of a subtable
unfoldable pub span_steps : List ℕ → Subtable → ℕ → List Step
span_steps table subtable k =
    let span = span_at table subtable.coverage k in
    Part 1 ∷ each_below (span.last + 1 - span.first) (glyph_steps table subtable.rule span)

-- a subtable with nothing in it, to which so many offsets lead
abbrev pub no_subtable : ℕ → Subtable
no_subtable offsets = record { rule = Shift 0; coverage = no_coverage; offsets = offsets }

-- a lookup type that there is not
abbrev pub is_unknown_type : ℕ → Bool
is_unknown_type kind = nat_eq kind 0 || nat_lt 8 kind

-- the subtable of a type at a place, to which so many offsets lead: those of types 5 and 6 call other lookups, and
-- have nothing of their own; the others have an offset to their Coverage
unfoldable pub plain_subtable : List ℕ → ℕ → ℕ → ℕ → Option Subtable
plain_subtable table kind at offsets =
    if nat_eq kind 5 || nat_eq kind 6 then Some (no_subtable offsets)
    else option_and_then (λ rule. option_map (λ coverage.
    record { rule = rule; coverage = coverage; offsets = offsets + 1 })
    (coverage_at table at (u16_at table (at + 2)))) (rule_at table kind at)

-- type 7, at a place: a subtable of another type at a 32-bit offset
unfoldable pub extension_subtable : List ℕ → ℕ → Option Subtable
extension_subtable table at =
    if nat_lt (length table) (at + 8) || not (nat_eq (u16_at table at) 1) then None
    else if is_unknown_type (u16_at table (at + 2)) || nat_eq (u16_at table (at + 2)) 7 then None
    else if nat_eq (u32_at table (at + 4)) 0 then Some (no_subtable 2)
    else plain_subtable table (u16_at table (at + 2)) (at + u32_at table (at + 4)) 2

-- the subtable of a type at an offset from its lookup
unfoldable pub offset_subtable : List ℕ → ℕ → ℕ → ℕ → Option Subtable
offset_subtable table kind base offset =
    if nat_eq offset 0 then Some (no_subtable 1)
    else if nat_eq kind 7 then extension_subtable table (base + offset)
    else plain_subtable table kind (base + offset) 1

-- subtable k of a lookup
unfoldable pub subtable_steps : List ℕ → Lookup → ℕ → List Step
subtable_steps table lookup k =
    steps_within (offset_subtable table lookup.kind lookup.at (u16_at table (lookup.at + 6 + 2 * k)))
    (λ subtable. subtable.offsets)
    (λ subtable. each_below subtable.coverage.count (span_steps table subtable))

-- the lookup at an offset from the list
unfoldable pub lookup_at : List ℕ → ℕ → ℕ → Option Lookup
lookup_at table base offset =
    if nat_eq offset 0 then Some (record { kind = 0; at = 0; count = 0 })
    else option_and_then (λ n.
    if is_unknown_type (u16_at table (base + offset)) then None
    else Some (record { kind = u16_at table (base + offset); at = base + offset; count = n }))
    (counted table (base + offset + 4) 2)

-- lookup k of the list at a place
unfoldable pub lookup_steps : List ℕ → ℕ → ℕ → List Step
lookup_steps table base k =
    steps_within (lookup_at table base (u16_at table (base + 2 + 2 * k))) (λ _. 1)
    (λ lookup. each_below lookup.count (subtable_steps table lookup))

-- the lookup list: none where lookupListOffset is 0
unfoldable pub lookup_list : List ℕ → Option ℕ
lookup_list table =
    if nat_lt (length table) 10 || not (nat_eq (u16_at table 0) 1) then None
    else if nat_eq (u16_at table 8) 0 then Some 0
    else counted table (u16_at table 8) 2

-- all steps, where there is a list
unfoldable pub steps_in : List ℕ → List Step
steps_in table = each_below (unwrap_or (lookup_list table) 0) (lookup_steps table (u16_at table 8))
