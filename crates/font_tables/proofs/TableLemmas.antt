-- What is known of a file whose tables are not refused.
use Rattle.std.proofs.Common.{◌≡◌, ℕ, ◌+◌, ◌-◌, ◌*◌, ◌<◌, ◌≤◌, false, eqb, List, length, get_or, None, sym, ap, ◌∙◌}
use Rattle.std.proofs.Common.{arith}
use Rattle.std.specs.List.{range_with_len}
use Rattle.std.proofs.lemmas.Bool.{eqb-false, ltb-false, or_parts}
use Rattle.std.proofs.lemmas.List.FromFn.{get_or-range_with_len, length-range_with_len}
use Rattle.sfnt_bytes.proofs.LineLemmas.{find-none_at, first_of_lines-none_at, option_map-none, when-none}
use Rattle.font_tables.specs.Fields.{glyph_count_of, loca_form_of, metric_count_of}
use Rattle.font_tables.specs.Inside.{HasMetric}
use Rattle.font_tables.specs.Outlines.{HasOutline}
use Rattle.font_tables.specs.Refusals.{is_bad_loca_at, table_fault, table_lines}
use Rattle.font_tables.specs.Tables.{glyf_of, hmtx_of, loca_of}
use Rattle.font_tables.specs.declared.loca.LocaForm.{LocaForm}
use Rattle.font_tables.specs.declared.tables.TableError.TheVariants.{BadHhea, BadHmtx, BadLoca, BadMaxp}
use Rattle.font_tables.proofs.OffsetLemmas.{IsGoodOffset, is_good_offset}

-- no line of the refusals of counts and metrics applies
pub record IsMeasured (file : List ℕ) : Type 0 where
  pub glyphs : 0 < glyph_count_of file
  pub pairs : 0 < metric_count_of file
  pub few : metric_count_of file ≤ glyph_count_of file
  pub room : 4 * metric_count_of file + 2 * (glyph_count_of file - metric_count_of file) ≤ length (hmtx_of file)

not_zero : (n : ℕ) → eqb n 0 ≡ false → 0 < n
not_zero n h = let e = eqb-false n 0 h in omega arith

pub is_measured : (file : List ℕ) → table_fault file ≡ None → IsMeasured file
unfolding table_fault glyph_count_of metric_count_of
is_measured file no_fault =
    let line : (k : ℕ) → get_or (table_lines file) k None ≡ None =
    λ k. first_of_lines-none_at (table_lines file) k no_fault in
    let maxp = or_parts _ _ (when-none _ BadMaxp (line 2)) in
    let hhea = or_parts _ _ (when-none _ BadHhea (line 3)) in
    let pairs = or_parts _ _ hhea.0 in
    record {
      glyphs = not_zero _ maxp.1;
      pairs = not_zero _ pairs.1;
      few = ltb-false _ _ hhea.1;
      room = ltb-false _ _ (when-none _ BadHmtx (line 4));
    }

-- no offset is bad
pub offset_is_good : (file : List ℕ) (j : ℕ) → table_fault file ≡ None → j ≤ glyph_count_of file
    → IsGoodOffset (loca_form_of file) (loca_of file) (length (glyf_of file)) j
unfolding table_fault
offset_is_good file j no_fault low =
    let last = first_of_lines-none_at (table_lines file) 5 no_fault in
    let range = range_with_len 0 (glyph_count_of file + 1) in
    let long : j < length range = omega (arith, length-range_with_len 0 (glyph_count_of file + 1)) in
    let at : get_or range j 0 ≡ 0 + j = get_or-range_with_len 0 (glyph_count_of file + 1) j 0 (omega arith) in
    let here : get_or range j 0 ≡ j = omega arith in
    is_good_offset _ _ _ j (ap (is_bad_loca_at file) (sym here)
    ∙ find-none_at (is_bad_loca_at file) range j 0 (option_map-none BadLoca _ last) long)

-- what a look-up of a metric needs
pub has_metric : (file hmtx : List ℕ) (h g : ℕ) → table_fault file ≡ None → hmtx ≡ hmtx_of file
    → h ≡ metric_count_of file → g < glyph_count_of file → HasMetric hmtx h g
has_metric file hmtx h g no_fault hmtx_is h_is low =
    let known = is_measured file no_fault in
    let some = known.pairs in let few = known.few in let room = known.room in
    let long : length hmtx ≡ length (hmtx_of file) = ap (λ (l : List ℕ). length l) hmtx_is in
    record { some = omega arith; pairs = omega arith; bearings = λ past. omega arith }

-- what a look-up of an outline needs
pub has_outline : (file loca glyf : List ℕ) (form : LocaForm) (g : ℕ) → table_fault file ≡ None → loca ≡ loca_of file
    → glyf ≡ glyf_of file → form ≡ loca_form_of file → g < glyph_count_of file → HasOutline form loca glyf g
has_outline file loca glyf form g no_fault loca_is glyf_is form_is low =
    rw (loca_is, glyf_is, form_is)
    (let start = offset_is_good file g no_fault (omega arith) in
    let end = offset_is_good file (g + 1) no_fault (omega arith) in
    let back : g + 1 - 1 ≡ g = omega arith in
    let rises = end.rises (omega arith) in
    record { start = start.whole; end = end.whole; ordered = rw back at rises; inside = end.inside })
