use Rattle.std.proofs.Common.{refl}
use Rattle.sfnt_bytes.specs.Number.{u16_at, u32_at}
use Rattle.font_tables.specs.Outlines.{offset_at}
use Rattle.font_variations.specs.Gvar.{axis_count, data_array_offset, flags, fvar_axis_count, gvar_glyph_count}
use Rattle.font_variations.specs.Gvar.{gvar_version, has_bad_tuples, is_bad_variations, shared_tuple_count}
use Rattle.font_variations.specs.Gvar.{shared_tuples_offset}
use Rattle.font_variations.proofs.laws.worked_bad_gvar.Goals as goal

pub returns : goal.returns
unfolding u16_at u32_at offset_at axis_count data_array_offset flags fvar_axis_count gvar_glyph_count
    gvar_version has_bad_tuples is_bad_variations shared_tuple_count shared_tuples_offset
returns c = record {
  cut_header = refl;
  other_version = refl;
  no_fvar = refl;
  cut_fvar = refl;
  other_axes = refl;
  fewer_glyphs = refl;
  other_flags = refl;
  cut_offsets = refl;
  tuples_over_offsets = refl;
  tuples_at_end = refl;
  tuples_past_end = refl;
  falling_offset = refl;
  offset_past_end = refl;
  array_past_end = refl;
}
