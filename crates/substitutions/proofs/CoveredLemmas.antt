-- The walk passes the entry of each glyph that a subtable covers, with each of its indices.
use Rattle.std.proofs.Common.{◌≡◌, ℕ, ◌+◌, ◌-◌, ◌*◌, ◌<◌, ◌≤◌, ◌||◌, true, false, eqb, List}
use Rattle.std.proofs.Common.{refl, ap, subst, ◌∙◌, arith, Option, Some, None, is_none, true≢false, unwrap_or}
use Rattle.std.proofs.lemmas.Bool.{or_parts}
use Rattle.sfnt_bytes.specs.Number.{u16_at}
use Rattle.font_layout.specs.Coverage.{coverage_at, span_at}
use Rattle.font_layout.specs.Layout.{is_bad_layout, links_in}
use Rattle.font_layout.specs.Rule.{rule_at}
use Rattle.font_layout.specs.Steps.{each_below, extension_subtable, glyph_steps, lookup_at, lookup_list, lookup_steps}
use Rattle.font_layout.specs.Steps.{plain_subtable, span_steps, steps_in, offset_subtable, subtable_steps}
use Rattle.substitutions.specs.Covered.{Covers, HasIndex}
use Rattle.substitutions.specs.Covered.HasIndex.{listed, ranged}
use Rattle.substitutions.specs.Inside.{IsPassed, Lookup, Rule, Subtable, rule_steps}
use Rattle.substitutions.specs.Lookups.{IsListed, IsSubtable, LeadsTo}
use Rattle.substitutions.specs.Lookups.IsSubtable.{plain, extended}
use Rattle.substitutions.proofs.PassedLemmas.{passed_each, passed_part, passed_within}
use Rattle.substitutions.proofs.ReadLemmas.{IsCoverage, IsLookup, IsSpan, coverage-lists, coverage-ranges}
use Rattle.substitutions.proofs.ReadLemmas.{extension-tells, list-tells, lookup-tells, plain-tells, some_offset}
use Rattle.substitutions.proofs.ReadLemmas.{span-lists, span-ranges}

module _ (table : List ℕ) (accepted : is_bad_layout table ≡ false) where
  -- the walk as a whole
  start : (n : ℕ) × (lookup_list table ≡ Some n)
      × IsPassed table (each_below n (lookup_steps table (u16_at table 8)))
  unfolding is_bad_layout steps_in links_in
  start =
      let first = or_parts _ _ accepted in
      let second = or_parts _ _ first.0 in
      go (lookup_list table) refl second.0 (record { sound = second.1; linked = λ link has. has })
    where
      go : (o : Option ℕ) → lookup_list table ≡ o → is_none o ≡ false
          → IsPassed table (each_below (unwrap_or (lookup_list table) 0) (lookup_steps table (u16_at table 8)))
          → (n : ℕ) × (lookup_list table ≡ Some n)
          × IsPassed table (each_below n (lookup_steps table (u16_at table 8)))
      go None is some passed = absurd (true≢false some)
      go (Some n) is some passed = (n, is, rw is at passed)

  -- a lookup
  lookup_passed : (list k lookup : ℕ) → LeadsTo (u16_at table 8) 0 list → k < u16_at table list
      → LeadsTo (u16_at table (list + 2 + 2 * k)) list lookup
      → (x : Lookup) × IsLookup table lookup x × IsPassed table (each_below x.count (subtable_steps table x))
  unfolding lookup_steps
  lookup_passed list k lookup to_list low to_lookup =
      let all = start in
      let base : u16_at table 8 ≡ list = omega (arith, to_list.sum) in
      let count : all.0 ≡ u16_at table list =
      list-tells table all.0 all.1 to_list.some ∙ ap (u16_at table) base in
      let passed : IsPassed table (each_below all.0 (lookup_steps table list)) =
      subst (λ (b : ℕ). IsPassed table (each_below all.0 (lookup_steps table b))) base all.2 in
      let here = passed_each table (lookup_steps table list) 0 all.0 k k passed (omega (arith, count)) (omega arith) in
      let there = passed_within table (lookup_at table list (u16_at table (list + 2 + 2 * k))) (λ _. 1)
      (λ x. each_below x.count (subtable_steps table x)) here in
      let told = lookup-tells table list (u16_at table (list + 2 + 2 * k)) there.0 there.1 to_lookup.some in
      (there.0, subst (λ (a : ℕ). IsLookup table a there.0) to_lookup.sum told, there.2)

  -- a subtable of a lookup
  listed_passed : {kind at : ℕ} → IsListed table kind at → (s : Subtable) × (offset : ℕ) × (base : ℕ) × (0 < offset)
      × (base + offset ≡ at) × (offset_subtable table kind base offset ≡ Some s)
      × IsPassed table (each_below s.coverage.count (span_steps table s))
  unfolding subtable_steps
  listed_passed {kind = kind} {at = at} l =
      let x = lookup_passed l.list l.k l.lookup l.lookup_list_offset l.lookup_count l.lookup_offset in
      let y : Lookup = x.0 in
      let is : IsLookup table l.lookup y = x.1 in
      let low : l.j < y.count = omega (arith, is.count, l.subtable_count) in
      let here = passed_each table (subtable_steps table y) 0 y.count l.j l.j x.2 low (omega arith) in
      let offset : ℕ = u16_at table (y.at + 6 + 2 * l.j) in
      let there = passed_within table (offset_subtable table y.kind y.at offset) (λ s. s.offsets)
      (λ s. each_below s.coverage.count (span_steps table s)) here in
      let same : offset ≡ u16_at table (l.lookup + 6 + 2 * l.j) =
      ap (λ (a : ℕ). u16_at table (a + 6 + 2 * l.j)) is.place in
      let kind_is : y.kind ≡ kind = is.kind ∙ l.lookup_type in (
        there.0,
        offset,
        y.at,
        omega (arith, same, l.subtable_offset.some),
        omega (arith, same, is.place, l.subtable_offset.sum),
        subst (λ (k : ℕ). offset_subtable table k y.at offset ≡ Some there.0) kind_is there.1,
        there.2,
      )

  -- a subtable of its own or of an extension
  subtable_passed : {kind at : ℕ} → IsSubtable table kind at → eqb kind 7 ≡ false → (s : Subtable) × (offsets : ℕ)
      × (plain_subtable table kind at offsets ≡ Some s)
      × IsPassed table (each_below s.coverage.count (span_steps table s))
  unfolding offset_subtable
  subtable_passed {kind = kind} {at = at} (plain l) own =
      let x = listed_passed l in
      let no = some_offset x.1 x.3 in
      let there : plain_subtable table kind (x.2 + x.1) 1 ≡ Some x.0 = rw (no, own) at x.5 in
      (x.0, 1, subst (λ (a : ℕ). plain_subtable table kind a 1 ≡ Some x.0) x.4 there, x.6)
  subtable_passed {kind = kind} {at = at} (extended e) own =
      let x = listed_passed e.listed in
      let no = some_offset x.1 x.3 in
      let there : extension_subtable table (x.2 + x.1) ≡ Some x.0 = rw no at x.5 in
      let from : extension_subtable table e.from ≡ Some x.0 =
      subst (λ (a : ℕ). extension_subtable table a ≡ Some x.0) x.4 there in
      let told = extension-tells table e.from x.0 from e.extension_offset.some in
      let type_is = e.extension_lookup_type in
      let place_is = e.extension_offset.sum in
      (x.0, 2, rw (type_is, place_is) at told, x.6)

  -- a glyph of an item of a Coverage
  span_passed : (s : Subtable) (k g i first last index : ℕ)
      → IsPassed table (each_below s.coverage.count (span_steps table s)) → k < s.coverage.count
      → IsSpan table s.coverage k first last index → first ≤ g → g ≤ last → index + (g - first) ≡ i
      → IsPassed table (rule_steps table s.rule g i)
  unfolding span_steps glyph_steps
  span_passed s k g i first last index passed low is from to at =
      let here = passed_each table (span_steps table s) 0 s.coverage.count k k passed low (omega arith) in
      let first_is = is.first_is in
      let last_is = is.last_is in
      let index_is = is.index_is in
      let one = passed_each table (glyph_steps table s.rule (span_at table s.coverage k)) 0
      ((span_at table s.coverage k).last + 1 - (span_at table s.coverage k).first) (g - first)
      (g - first) (passed_part table 1 _ here) (omega (arith, first_is, last_is, from, to)) (omega arith) in
      let glyph : (span_at table s.coverage k).first + (g - first) ≡ g = omega (arith, first_is, from) in
      let number : (span_at table s.coverage k).index + (g - first) ≡ i = omega (arith, index_is, at) in
      rw (glyph, number) at (passed_part table _ _ one)

  -- a glyph that a Coverage has with an index
  index_passed : (s : Subtable) (at offset coverage g i : ℕ) → coverage_at table at offset ≡ Some s.coverage
      → LeadsTo offset at coverage → HasIndex table coverage g i
      → IsPassed table (each_below s.coverage.count (span_steps table s)) → IsPassed table (rule_steps table s.rule g i)
  index_passed s at offset coverage g i covered to (listed format low is) passed =
      let told = coverage-lists table at offset s.coverage covered to.some (ap (u16_at table) to.sum ∙ format) in
      let here = subst (λ (a : ℕ). IsCoverage table a false s.coverage) to.sum told in
      let glyph : ℕ = u16_at table (coverage + 4 + 2 * i) in
      span_passed s i g i glyph glyph i passed (omega (arith, here.count, low))
      (span-lists table coverage i s.coverage here) (omega (arith, is)) (omega (arith, is)) (omega (arith, is))
  index_passed s at offset coverage g i covered to (ranged k format low first last index) passed =
      let told = coverage-ranges table at offset s.coverage covered to.some (ap (u16_at table) to.sum ∙ format) in
      let here = subst (λ (a : ℕ). IsCoverage table a true s.coverage) to.sum told in
      span_passed s k g i (u16_at table (coverage + 4 + 6 * k)) (u16_at table (coverage + 6 + 6 * k))
      (u16_at table (coverage + 8 + 6 * k)) passed (omega (arith, here.count, low))
      (span-ranges table coverage k s.coverage here) first last index

  -- what the walk passes of each glyph that a subtable covers
  pub covers_passed : {kind format at g i : ℕ} → Covers table kind format at g i
      → (eqb kind 5 || eqb kind 6) ≡ false → eqb kind 7 ≡ false
      → (rule : Rule) × (rule_at table kind at ≡ Some rule) × IsPassed table (rule_steps table rule g i)
  covers_passed {kind = kind} {at = at} {g = g} {i = i} c own other =
      let x = subtable_passed c.subtable other in
      let told = plain-tells table kind at x.1 x.0 x.2 own in
      let offset : ℕ = u16_at table (at + 2) in
      (x.0.rule, told.0, index_passed x.0 at offset c.coverage g i told.1 c.coverage_offset c.index x.3)
