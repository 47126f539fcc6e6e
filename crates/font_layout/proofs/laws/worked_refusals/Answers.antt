use Rattle.std.proofs.Common.{refl}
use Rattle.sfnt_bytes.specs.Number.{u16_at, u32_at}
use Rattle.font_layout.specs.Counted.{counted}
use Rattle.font_layout.specs.Coverage.{coverage_at, span_at}
use Rattle.font_layout.specs.Layout.{is_bad_layout}
use Rattle.font_layout.specs.Rule.{entry_step, ligature_at, reverse_rule_at, rule_at, rule_entry, sequence_at, set_at}
use Rattle.font_layout.specs.Steps.{extension_subtable, glyph_steps, lookup_at, lookup_list, lookup_steps}
use Rattle.font_layout.specs.Steps.{offset_subtable, plain_subtable, span_steps, steps_in, subtable_steps}
use Rattle.font_layout.proofs.laws.worked_refusals.Goals as goal

pub returns : goal.returns
unfolding u16_at u32_at counted coverage_at span_at is_bad_layout rule_entry entry_step ligature_at reverse_rule_at
    rule_at sequence_at set_at extension_subtable glyph_steps lookup_at lookup_list lookup_steps plain_subtable
    span_steps steps_in offset_subtable subtable_steps
returns c =
    record {
      shifted_in = refl;
      ligature_in = refl;
      ligature_cut = refl;
      context_in = refl;
      extended_in = refl;
      extended_twice = refl;
      extended_to_nothing = refl;
      extended_by_no_type = refl;
      unknown_type = refl;
      empty_lookup = refl;
      empty_unknown_lookup = refl;
      unknown_format = refl;
      no_list = refl;
      no_header = refl;
    }
