use Rattle.std.proofs.Common.{refl}
use Rattle.sfnt_bytes.specs.Number.{u16_at, u32_at}
use Rattle.font_layout.specs.Cleaning.{field_at, field_since, fixed, has_field}
use Rattle.font_layout.specs.Counted.{counted}
use Rattle.font_layout.specs.Coverage.{coverage_at, span_at}
use Rattle.font_layout.specs.Layout.{kept_in, leads_of, links_in}
use Rattle.font_layout.specs.Rule.{entry_step, ligature_at, reverse_rule_at, rule_at, rule_entry, sequence_at, set_at}
use Rattle.font_layout.specs.Steps.{extension_subtable, glyph_steps, lookup_at, lookup_list, lookup_steps}
use Rattle.font_layout.specs.Steps.{offset_subtable, plain_subtable, span_steps, steps_in, subtable_steps}
use Rattle.font_layout.proofs.laws.worked_links.Goals as goal

pub returns : goal.returns
unfolding u16_at u32_at field_at field_since fixed has_field counted coverage_at span_at kept_in leads_of links_in
    rule_entry entry_step ligature_at reverse_rule_at rule_at sequence_at set_at extension_subtable glyph_steps
    lookup_at lookup_list lookup_steps plain_subtable span_steps steps_in offset_subtable subtable_steps
returns c =
    record {
      shifted_by = refl;
      single_by = refl;
      multiple_by = refl;
      alternate_by = refl;
      ligature_by = refl;
      context_by = refl;
      chained_by = refl;
      extended_by = refl;
      reverse_by = refl;
      overlaid_by = refl;
      overlaid_fixed = refl;
      leads = refl;
    }
