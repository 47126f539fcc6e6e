-- Words of proofs: what the walk that lists links has passed.
use Rattle.std.specs.Prelude.{◌≡◌, ℕ, ◌<◌, ◌≤◌, false, List, [], map}
use Rattle.std.specs.List.{Contains, list_any, range_with_len}
use Rattle.sfnt_bytes.specs.Number.{u16_at, u32_at}
use Rattle.font_layout.specs.Coverage.{span_at}
use Rattle.font_layout.specs.Layout.{is_fault, links_among, links_in}
use Rattle.font_layout.specs.Rule.{rule_entry, entry_step}
use Rattle.font_layout.specs.Steps.{span_steps, subtable_steps}
use Rattle.font_layout.specs.declared.step.Link.{Link}
use Rattle.font_layout.specs.declared.step.Step.{Step}

-- steps of the walk through an accepted table: none is a fault, and the table has their links
pub record IsPassed (table : List ℕ) (steps : List Step) : Type 0 where
  pub sound : list_any is_fault steps ≡ false
  pub linked : (link : Link) → Contains (links_among steps) link → Contains (links_in table) link

-- what a function takes: so types are named that a library keeps to itself
abbrev pub Taken : {X Y : Type 0} → (X → Y) → Type 0
Taken {X = X} f = X

-- what the walk reads: a lookup, a subtable, its Coverage, and its rule
abbrev pub Lookup : Type 0
Lookup = Taken (subtable_steps [])

abbrev pub Subtable : Type 0
Subtable = Taken (span_steps [])

abbrev pub Coverage : Type 0
Coverage = Taken (span_at [])

abbrev pub Rule : Type 0
Rule = Taken (rule_entry [])

-- the steps from a glyph with an index by a rule
abbrev pub rule_steps : List ℕ → Rule → ℕ → ℕ → List Step
rule_steps table rule g i =
    map (entry_step table g (rule_entry table rule g i).form) (range_with_len 0 (rule_entry table rule g i).count)

-- two tables have the same numbers but for those that lie over bytes 10 to 13, and their lists of lookups come after
-- these
pub record AgreePastHeader (x y : List ℕ) : Type 0 where
  pub lookup_list_offset : u16_at x 8 ≡ u16_at y 8
  pub after : 0 < u16_at x 8 → 14 ≤ u16_at x 8
  pub words : (k : ℕ) → 14 ≤ k → u16_at x k ≡ u16_at y k
  pub long_words : (k : ℕ) → 14 ≤ k → u32_at x k ≡ u32_at y k
