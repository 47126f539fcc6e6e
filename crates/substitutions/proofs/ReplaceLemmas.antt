-- What may come in the place of a glyph is what the table has links to.
use Rattle.std.proofs.Common.{◌≡◌, ℕ, ◌+◌, ◌-◌, ◌*◌, ◌%◌, ◌<◌, true, false, eqb, inl, inr, leb, ◌||◌, List, []}
use Rattle.std.proofs.Common.{◌∷◌, length, map, refl, sym, ap, subst, arith, Some}
use Rattle.std.specs.List.{All, range_with_len}
use Rattle.std.proofs.lemmas.Bool.{cases_Bool, lt-ltb}
use Rattle.std.proofs.lemmas.List.Elements.{All-cons, All-from_get_or, All-nil}
use Rattle.std.proofs.lemmas.List.FromFn.{get_or-map-range_with_len, length-map-range_with_len}
use Rattle.std.proofs.lemmas.Option.{none-some, option_and_then_some, same_Some}
use Rattle.sfnt_bytes.specs.Number.{u16_at}
use Rattle.font_layout.specs.Counted.{counted}
use Rattle.font_layout.specs.Layout.{is_bad_layout}
use Rattle.font_layout.specs.Rule.{entry_step, ligature_at, link, reverse_rule_at, rule_at, rule_entry, sequence_at}
use Rattle.font_layout.specs.Rule.{set_at}
use Rattle.font_layout.specs.declared.step.Link.{Link}
use Rattle.substitutions.specs.Inside.{IsPassed, Rule, rule_steps}
use Rattle.substitutions.specs.Laws.{IsLink}
use Rattle.substitutions.specs.Lookups.{LeadsTo}
use Rattle.substitutions.specs.Substitution.{FormsLigature, Replaces, array_end, glyph_array}
use Rattle.substitutions.specs.Substitution.Replaces.{by_delta, by_array, by_sequence, by_alternate, by_reverse}
use Rattle.substitutions.proofs.CoveredLemmas.{covers_passed}
use Rattle.substitutions.proofs.PassedLemmas.{passed_fault, passed_item, passed_link}
use Rattle.substitutions.proofs.ReadLemmas.{counted-tells, option_cases, some_mapped, some_offset}

abbrev arrow : ℕ → ℕ → Link
arrow g h = record { from = g; to = h }

module _ (table : List ℕ) (g i at : ℕ) (rule : Rule) (passed : IsPassed table (rule_steps table rule g i)) where
  abbrev same : Rule → Type 0
  same r = IsPassed table (rule_steps table r g i)

  delta_linked : rule_at table 1 at ≡ Some rule → u16_at table at ≡ 1
      → IsLink table g ((g + u16_at table (at + 4)) % 65536)
  unfolding rule_at rule_entry entry_step
  delta_linked h form =
      elim (cases_Bool (leb (at + 6) (length table))) [
        | inl whole ↦
            let is = same_Some _ rule (rw (form, whole) at h) in
            passed_link table (arrow g ((g + u16_at table (at + 4)) % 65536)) (subst same (sym is) passed)
        | inr cut ↦ absurd (none-some rule (rw (form, cut) at h))
      ]

  array_linked : rule_at table 1 at ≡ Some rule → u16_at table at ≡ 2 → i < u16_at table (at + 4)
      → IsLink table g (u16_at table (at + 6 + 2 * i))
  unfolding rule_at rule_entry entry_step
  array_linked h form low =
      let there = some_mapped _ (counted table (at + 4) 2) rule (rw form at h) in
      let few = lt-ltb i there.0 (omega (arith, low, counted-tells table (at + 4) 2 there.0 there.1)) in
      passed_link table (arrow g (u16_at table (at + 6 + 2 * i))) (rw few at (subst same (sym there.2) passed))

  reverse_linked : (count : ℕ) → rule_at table 8 at ≡ Some rule → u16_at table at ≡ 1
      → array_end table (array_end table (at + 4)) ≡ count → i < u16_at table count
      → IsLink table g (u16_at table (count + 2 + 2 * i))
  unfolding rule_at reverse_rule_at array_end rule_entry entry_step
  reverse_linked count h form is low =
      option_and_then_some _ (counted table (at + 4) 2) rule (rw form at h)
      (λ before before_is rest. option_and_then_some _ (counted table (at + 6 + 2 * before) 2) rule rest
      (λ behind behind_is last.
      let there = some_mapped _ (counted table (at + 8 + 2 * before + 2 * behind) 2) rule last in
      let b = counted-tells table (at + 4) 2 before before_is in
      let a = counted-tells table (at + 6 + 2 * before) 2 behind behind_is in
      let n = counted-tells table (at + 8 + 2 * before + 2 * behind) 2 there.0 there.1 in
      let first : at + 4 + 2 + 2 * u16_at table (at + 4) ≡ at + 6 + 2 * before = omega (arith, b) in
      let second = ap (u16_at table) first in
      let here : at + 8 + 2 * before + 2 * behind ≡ count = omega (arith, first, second, a, is) in
      let same_count = ap (u16_at table) here in
      let few = lt-ltb i there.0 (omega (arith, low, n, same_count)) in
      let place : at + 10 + 2 * before + 2 * behind + 2 * i ≡ count + 2 + 2 * i = omega (arith, here) in
      let linked = passed_link table (arrow g (u16_at table (at + 10 + 2 * before + 2 * behind + 2 * i)))
      (rw few at (subst same (sym there.2) passed)) in
      rw place at linked))

  -- a Sequence or an AlternateSet
  row_linked : (kind outputs k : ℕ) → eqb kind 1 ≡ false → (eqb kind 2 || eqb kind 3) ≡ true
      → rule_at table kind at ≡ Some rule → u16_at table at ≡ 1 → i < u16_at table (at + 4)
      → LeadsTo (u16_at table (at + 6 + 2 * i)) at outputs → k < u16_at table outputs
      → IsLink table g (u16_at table (outputs + 2 + 2 * k))
  unfolding rule_at rule_entry entry_step sequence_at
  row_linked kind outputs k other own h form few to low =
      let there = some_mapped _ (counted table (at + 4) 2) rule (rw (form, other, own) at h) in
      let inside = lt-ltb i there.0 (omega (arith, few, counted-tells table (at + 4) 2 there.0 there.1)) in
      let offset = some_offset (u16_at table (at + 6 + 2 * i)) to.some in
      let place : at + u16_at table (at + 6 + 2 * i) ≡ outputs = to.sum in
      let here = rw (inside, offset, place) at (subst same (sym there.2) passed) in
      elim (option_cases (counted table outputs 2)) [
        | inl none ↦ absurd (passed_fault table (rw none at here))
        | inr n ↦
            let is = n.1 in
            passed_link table (arrow g (u16_at table (outputs + 2 + 2 * k)))
            (passed_item table (λ j. link g (u16_at table (outputs + 2 + 2 * j))) n.0 k (rw is at here)
            (omega (arith, low, counted-tells table outputs 2 n.0 n.1)))
      ]

  ligature_linked : (set k ligature : ℕ) → rule_at table 4 at ≡ Some rule → u16_at table at ≡ 1
      → i < u16_at table (at + 4) → LeadsTo (u16_at table (at + 6 + 2 * i)) at set → k < u16_at table set
      → LeadsTo (u16_at table (set + 2 + 2 * k)) set ligature → IsLink table g (u16_at table ligature)
  unfolding rule_at rule_entry entry_step set_at ligature_at
  ligature_linked set k ligature h form few to low to_ligature =
      let there = some_mapped _ (counted table (at + 4) 2) rule (rw form at h) in
      let inside = lt-ltb i there.0 (omega (arith, few, counted-tells table (at + 4) 2 there.0 there.1)) in
      let offset = some_offset (u16_at table (at + 6 + 2 * i)) to.some in
      let place : at + u16_at table (at + 6 + 2 * i) ≡ set = to.sum in
      let here = rw (inside, offset, place) at (subst same (sym there.2) passed) in
      elim (option_cases (counted table set 2)) [
        | inl none ↦ absurd (passed_fault table (rw none at here))
        | inr n ↦
            let is = n.1 in
            let one = passed_item table (λ j. ligature_at table g set (u16_at table (set + 2 + 2 * j))) n.0 k
            (rw is at here) (omega (arith, low, counted-tells table set 2 n.0 n.1)) in
            let some = some_offset (u16_at table (set + 2 + 2 * k)) to_ligature.some in
            let glyph : set + u16_at table (set + 2 + 2 * k) ≡ ligature = to_ligature.sum in
            let last = rw (some, glyph) at one in
            elim (cases_Bool (leb (ligature + 4 + 2 * (u16_at table (ligature + 2) - 1)) (length table))) [
              | inl whole ↦ passed_link table (arrow g (u16_at table ligature)) (rw whole at last)
              | inr cut ↦ absurd (passed_fault table (rw cut at last))
            ]
      ]

module _ (table : List ℕ) (accepted : is_bad_layout table ≡ false) where
  alone : (g h : ℕ) (outputs : List ℕ) → h ∷ [] ≡ outputs → IsLink table g h → All (IsLink table g) outputs
  alone g h outputs is linked = subst (All (IsLink table g)) is (All-cons (IsLink table g) h [] linked (All-nil _))

  pub replaced_linked : {g : ℕ} {outputs : List ℕ} → Replaces table g outputs → All (IsLink table g) outputs
  unfolding glyph_array
  replaced_linked {g = g} {outputs = outputs} (by_delta {at = at} {i = i} covers is) =
      let x = covers_passed table accepted covers refl refl in
      alone g _ outputs is (delta_linked table g i at x.0 x.2 x.1 covers.subst_format)
  replaced_linked {g = g} {outputs = outputs} (by_array {at = at} {i = i} covers few is) =
      let x = covers_passed table accepted covers refl refl in
      alone g _ outputs is (array_linked table g i at x.0 x.2 x.1 covers.subst_format few)
  replaced_linked {g = g} {outputs = outputs} (by_sequence {at = at} {i = i} {sequence = sequence} covers few to is) =
      let x = covers_passed table accepted covers refl refl in
      let f : ℕ → ℕ = λ k. u16_at table (sequence + 2 + 2 * k) in
      let n : ℕ = u16_at table sequence in
      let long = length-map-range_with_len f 0 n in
      subst (All (IsLink table g)) is (All-from_get_or (IsLink table g) (map f (range_with_len 0 n)) 0
      (λ k low. subst (IsLink table g)
      (sym (get_or-map-range_with_len f 0 n k k 0 (omega (arith, long)) (omega arith)))
      (row_linked table g i at x.0 x.2 2 sequence k refl refl x.1 covers.subst_format few to (omega (arith, long)))))
  replaced_linked {g = g} {outputs = outputs} (by_alternate {at = at} {i = i} {set = set} k covers few to low is) =
      let x = covers_passed table accepted covers refl refl in
      alone g _ outputs is (row_linked table g i at x.0 x.2 3 set k refl refl x.1 covers.subst_format few to low)
  replaced_linked {g = g} {outputs = outputs} (by_reverse {at = at} {i = i} count covers place few is) =
      let x = covers_passed table accepted covers refl refl in
      alone g _ outputs is (reverse_linked table g i at x.0 x.2 count x.1 covers.subst_format place few)

  pub formed_linked : {g : ℕ} {others : List ℕ} {formed : ℕ} → FormsLigature table g others formed
      → IsLink table g formed
  formed_linked {g = g} l =
      let x = covers_passed table accepted l.covers refl refl in
      subst (IsLink table g) l.ligature_glyph (ligature_linked table g l.i l.at x.0 x.2 l.set l.k l.ligature x.1
      l.covers.subst_format l.ligature_set_count l.ligature_set_offset l.ligature_count l.ligature_offset)
