use Rattle.std.proofs.Common.{◌≡◌, false, true, refl, None, Some}
use Rattle.std.proofs.lemmas.Bool.{true_from_ne_false}
use Rattle.sfnt_bytes.specs.declared.tag.TheConstants.{GVAR}
use Rattle.font_theory.specs.Parting.{Tables}
use Rattle.divided_tables.specs.PartedTable.{is_bad_in}
use Rattle.divided_tables.specs.OpenVariations.{AreVariationsOf}
use Rattle.divided_tables.proofs.VariationLemmas.{bad_gvar, gvar_parts_are, no_gvar, opened_at, opened_nowhere}
use Rattle.divided_tables.proofs.glyph_variations.GlyphVariationsOpenFrom.open.Goals as goal

pub returns-in_default : goal.returns-in_default
returns-in_default g c =
    let copied : Tables = g.B.TablesBySlot.tables_in c.args.tables.now in
    let is : AreVariationsOf copied (record { gvar = None; count = c.glyph_count-count.result }) =
    record { gvar_is = opened_nowhere copied c.in_default.ensures; count_is = c.glyph_count-count.ensures } in
    (is, gvar_parts_are copied _ is, no_gvar copied c.in_default.ensures)

pub returns-in_default-open : goal.returns-in_default-open
returns-in_default-open g c =
    let copied : Tables = g.B.TablesBySlot.tables_in c.args.tables.now in
    let bad : is_bad_in GVAR copied ≡ true =
    bad_gvar copied c.in-Some.gvar.now _ c.glyph_count-count.result true c.in-Some.ensures c.table-2.ensures
    c.glyph_count-count.ensures
    (true_from_ne_false _ (λ h. let no : false ≡ true = c.in_default-open.ensures.exact.1 h in cc)) in
    (bad, bad)

pub returns : goal.returns
returns g c =
    let copied : Tables = g.B.TablesBySlot.tables_in c.args.tables.now in
    let is : AreVariationsOf copied (record {
      gvar = Some c.in-Some-open.variations;
      count = c.glyph_count-count.result;
    }) = record {
      gvar_is = opened_at copied c.in-Some.gvar.now c.glyph_count-count.result c.in-Some-open.variations
          c.in-Some.ensures c.glyph_count-count.ensures c.in-Some-open.ensures.value;
      count_is = c.glyph_count-count.ensures;
    } in (
      is,
      gvar_parts_are copied _ is,
      bad_gvar copied c.in-Some.gvar.now _ c.glyph_count-count.result false c.in-Some.ensures c.table-2.ensures
          c.glyph_count-count.ensures (c.in-Some-open.ensures.exact.0 refl),
    )
