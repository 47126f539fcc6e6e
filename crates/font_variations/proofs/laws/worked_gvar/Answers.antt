use Rattle.std.proofs.Common.{refl}
use Rattle.sfnt_bytes.specs.Number.{u16_at, u32_at}
use Rattle.font_tables.specs.Outlines.{offset_at}
use Rattle.font_variations.specs.Gvar.{axis_count, data_array_offset, data_of, flags, front_of, fvar_axis_count}
use Rattle.font_variations.specs.Gvar.{gvar_glyph_count, gvar_version, has_bad_tuples, is_bad_variations}
use Rattle.font_variations.specs.Gvar.{shared_tuple_count, shared_tuples_of, shared_tuples_offset}
use Rattle.font_variations.specs.MadeGvar.{gvar_bytes, offset_bytes}
use Rattle.font_variations.proofs.laws.worked_gvar.Goals as goal

pub returns : goal.returns
unfolding u16_at u32_at offset_at axis_count data_array_offset data_of flags front_of fvar_axis_count
    gvar_glyph_count gvar_version has_bad_tuples is_bad_variations shared_tuple_count shared_tuples_of
    shared_tuples_offset gvar_bytes offset_bytes
returns c = record {
  short_accepted = refl;
  short_front = refl;
  short_tuples = refl;
  short_first = refl;
  short_second = refl;
  long_accepted = refl;
  long_tuples = refl;
  long_first = refl;
  long_second = refl;
  long_made = refl;
  strange_accepted = refl;
  strange_tuples = refl;
  strange_data = refl;
}
