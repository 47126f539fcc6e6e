-- Tables that are alike after their headers have the same steps.
use Rattle.std.proofs.Common.{◌≡◌, ℕ, ◌+◌, ◌-◌, ◌*◌, ◌%◌, ◌<◌, ◌≤◌, List, [], ◌∷◌, map, refl, sym, ap, subst}
use Rattle.std.proofs.Common.{◌∙◌, arith}
use Rattle.std.specs.List.{range_with_len}
use Rattle.std.proofs.Math.Path.{fun_ext}
use Rattle.sfnt_bytes.specs.Number.{u16_at}
use Rattle.substitutions.specs.Covered.{Covers, HasIndex}
use Rattle.substitutions.specs.Covered.HasIndex.{listed, ranged}
use Rattle.substitutions.specs.Inside.{AgreePastHeader}
use Rattle.substitutions.specs.Lookups.{IsListed, IsSubtable, LeadsTo}
use Rattle.substitutions.specs.Lookups.IsSubtable.{plain, extended}
use Rattle.substitutions.specs.Shaping.{Becomes, BecomesInSteps}
use Rattle.substitutions.specs.Shaping.Becomes.{replaced, ligated}
use Rattle.substitutions.specs.Shaping.BecomesInSteps.{done, step, moved}
use Rattle.substitutions.specs.Substitution.{FormsLigature, Replaces, array_end, glyph_array}
use Rattle.substitutions.specs.Substitution.Replaces.{by_delta, by_array, by_sequence, by_alternate, by_reverse}

module _ (x y : List ℕ) (alike : AgreePastHeader x y) where
  same : (k : ℕ) → 14 ≤ k → u16_at x k ≡ u16_at y k
  same = alike.words

  leads : (k from place : ℕ) → 14 ≤ k → LeadsTo (u16_at x k) from place → LeadsTo (u16_at y k) from place
  leads k from place past to = subst (λ (n : ℕ). LeadsTo n from place) (same k past) to

  few : (k i : ℕ) → 14 ≤ k → i < u16_at x k → i < u16_at y k
  few k i past low = subst (λ (n : ℕ). i < n) (same k past) low

  is : (k n : ℕ) → 14 ≤ k → u16_at x k ≡ n → u16_at y k ≡ n
  is k n past e = sym (same k past) ∙ e

  same_listed : {kind at : ℕ} → IsListed x kind at → IsListed y kind at × (14 ≤ at)
  same_listed l =
      let offset = alike.lookup_list_offset in
      let after = alike.after l.lookup_list_offset.some in
      let list_past : 14 ≤ l.list = omega (arith, l.lookup_list_offset.sum, after) in
      let lookup_past : 14 ≤ l.lookup = omega (arith, l.lookup_offset.sum, list_past) in (
        record {
          list = l.list;
          lookup_list_offset = subst (λ (n : ℕ). LeadsTo n 0 l.list) offset l.lookup_list_offset;
          k = l.k;
          lookup_count = few l.list l.k list_past l.lookup_count;
          lookup = l.lookup;
          lookup_offset = leads (l.list + 2 + 2 * l.k) l.list l.lookup (omega arith) l.lookup_offset;
          lookup_type = is l.lookup _ lookup_past l.lookup_type;
          j = l.j;
          subtable_count = few (l.lookup + 4) l.j (omega arith) l.subtable_count;
          subtable_offset = leads (l.lookup + 6 + 2 * l.j) l.lookup _ (omega arith) l.subtable_offset;
        },
        omega (arith, l.subtable_offset.sum, lookup_past),
      )

  same_subtable : {kind at : ℕ} → IsSubtable x kind at → IsSubtable y kind at × (14 ≤ at)
  same_subtable (plain l) = let w = same_listed l in (plain w.0, w.1)
  same_subtable {at = at} (extended e) =
      let w = same_listed e.listed in
      let past : 14 ≤ e.from = w.1 in (
        extended (record {
          from = e.from;
          listed = w.0;
          format = is e.from 1 past e.format;
          extension_lookup_type = is (e.from + 2) _ (omega arith) e.extension_lookup_type;
          extension_offset = subst (λ (n : ℕ). LeadsTo n e.from at) (alike.long_words (e.from + 4) (omega arith))
              e.extension_offset;
        }),
        omega (arith, e.extension_offset.sum, past),
      )

  same_index : {coverage g i : ℕ} → 14 ≤ coverage → HasIndex x coverage g i → HasIndex y coverage g i
  same_index {coverage = c} {g = g} {i = i} past (listed format low at) =
      listed (is c 1 past format) (few (c + 2) i (omega arith) low) (is (c + 4 + 2 * i) g (omega arith) at)
  same_index {coverage = c} {g = g} {i = i} past (ranged k format low from to at) =
      let first = same (c + 4 + 6 * k) (omega arith) in
      let last = same (c + 6 + 6 * k) (omega arith) in
      let index = same (c + 8 + 6 * k) (omega arith) in
      ranged k (is c 2 past format) (few (c + 2) k (omega arith) low) (omega (arith, first, from))
      (omega (arith, last, to)) (omega (arith, first, index, at))

  same_covers : {kind format at g i : ℕ} → Covers x kind format at g i → Covers y kind format at g i × (14 ≤ at)
  same_covers {format = format} {at = at} c =
      let w = same_subtable c.subtable in
      let past : 14 ≤ at = w.1 in (
        record {
          subtable = w.0;
          subst_format = is at format past c.subst_format;
          coverage = c.coverage;
          coverage_offset = leads (at + 2) at c.coverage (omega arith) c.coverage_offset;
          index = same_index (omega (arith, c.coverage_offset.sum, past)) c.index;
        },
        past,
      )

  same_array : (at n : ℕ) → 14 ≤ at → glyph_array x at n ≡ glyph_array y at n
  unfolding glyph_array
  same_array at n past = ap (λ (f : ℕ → ℕ). map f (range_with_len 0 n)) (fun_ext (λ k. same (at + 2 * k) (omega arith)))

  same_glyphs : (at count : ℕ) → 14 ≤ at → 14 ≤ count → glyph_array x at (u16_at x count)
      ≡ glyph_array y at (u16_at y count)
  same_glyphs at count past more = same_array at (u16_at x count) past
      ∙ ap (glyph_array y at) (same count more)

  same_end : (at : ℕ) → 14 ≤ at → array_end x (array_end x at) ≡ array_end y (array_end y at)
  unfolding array_end
  same_end at past =
      let first = same at past in
      let second = same (at + 2 + 2 * u16_at y at) (omega arith) in
      rw (first, second) refl

  end_past : (at count : ℕ) → 14 ≤ at → array_end x (array_end x at) ≡ count → 14 ≤ count
  unfolding array_end
  end_past at count past e = omega (arith, e)

  same_replaces : {g : ℕ} {outputs : List ℕ} → Replaces x g outputs → Replaces y g outputs
  same_replaces {g = g} (by_delta {at = at} c at_is) =
      let w = same_covers c in
      let delta = same (at + 4) (omega (arith, w.1)) in
      by_delta w.0 (ap (λ (d : ℕ). (g + d) % 65536 ∷ []) (sym delta) ∙ at_is)
  same_replaces (by_array {at = at} {i = i} c low at_is) =
      let w = same_covers c in
      let here = same (at + 6 + 2 * i) (omega (arith, w.1)) in
      by_array w.0 (few (at + 4) i (omega (arith, w.1)) low) (ap (λ (h : ℕ). h ∷ []) (sym here) ∙ at_is)
  same_replaces (by_sequence {at = at} {i = i} {sequence = row} c low to at_is) =
      let w = same_covers c in
      let past : 14 ≤ row = omega (arith, w.1, to.sum) in
      by_sequence w.0 (few (at + 4) i (omega (arith, w.1)) low)
      (leads (at + 6 + 2 * i) at row (omega (arith, w.1)) to)
      (sym (same_glyphs (row + 2) row (omega arith) past) ∙ at_is)
  same_replaces (by_alternate {at = at} {i = i} {set = set} k c low to below at_is) =
      let w = same_covers c in
      let past : 14 ≤ set = omega (arith, w.1, to.sum) in
      let here = same (set + 2 + 2 * k) (omega arith) in
      by_alternate k w.0 (few (at + 4) i (omega (arith, w.1)) low)
      (leads (at + 6 + 2 * i) at set (omega (arith, w.1)) to)
      (few set k past below) (ap (λ (h : ℕ). h ∷ []) (sym here) ∙ at_is)
  same_replaces (by_reverse {at = at} {i = i} count c end low at_is) =
      let w = same_covers c in
      let from : 14 ≤ at + 4 = omega (arith, w.1) in
      let past = end_past (at + 4) count from end in
      let here = same (count + 2 + 2 * i) (omega (arith, past)) in
      by_reverse count w.0 (sym (same_end (at + 4) from) ∙ end) (few count i past low)
      (ap (λ (h : ℕ). h ∷ []) (sym here) ∙ at_is)

  same_ligature : {g : ℕ} {others : List ℕ} {formed : ℕ} → FormsLigature x g others formed
      → FormsLigature y g others formed
  same_ligature {formed = formed} l =
      let w = same_covers l.covers in
      let at_past : 14 ≤ l.at = w.1 in
      let set_past : 14 ≤ l.set = omega (arith, at_past, l.ligature_set_offset.sum) in
      let past : 14 ≤ l.ligature = omega (arith, set_past, l.ligature_offset.sum) in
      record {
        at = l.at;
        i = l.i;
        covers = w.0;
        ligature_set_count = few (l.at + 4) l.i (omega arith) l.ligature_set_count;
        set = l.set;
        ligature_set_offset = leads (l.at + 6 + 2 * l.i) l.at l.set (omega arith) l.ligature_set_offset;
        k = l.k;
        ligature_count = few l.set l.k set_past l.ligature_count;
        ligature = l.ligature;
        ligature_offset = leads (l.set + 2 + 2 * l.k) l.set l.ligature (omega arith) l.ligature_offset;
        ligature_glyph = is l.ligature formed past l.ligature_glyph;
        component_glyph_ids = sym (same_array (l.ligature + 4) (u16_at x (l.ligature + 2) - 1) (omega arith)
            ∙ ap (λ (n : ℕ). glyph_array y (l.ligature + 4) (n - 1)) (same (l.ligature + 2) (omega arith)))
            ∙ l.component_glyph_ids;
      }

  pub same_step : {list next : List ℕ} → Becomes x list next → Becomes y list next
  same_step (replaced before after r) = replaced before after (same_replaces r)
  same_step (ligated before l w) = ligated before (same_ligature l) w

  pub same_run : {list last : List ℕ} → BecomesInSteps x list last → BecomesInSteps y list last
  same_run done = done
  same_run (step s rest) = step (same_step s) (same_run rest)
  same_run (moved those rest) = moved those (same_run rest)
