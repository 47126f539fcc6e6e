-- What the call for the numbers of a whole font answers, this project's own.
use Rattle.std.specs.Prelude.{ℕ, List}
use Rattle.font_tables.specs.Fields.{ascender, descender, glyph_count_of, units_per_em_of, x_max, x_min, y_max, y_min}
use Rattle.font_tables.specs.Tables.{head_of, hhea_of}
use Rattle.fontcut_c.specs.declared.info.Info.{Info}

-- the numbers of a font
abbrev pub info_of : List ℕ → Info
info_of font =
    record {
      glyph_count = glyph_count_of font;
      units_per_em = units_per_em_of font;
      x_min = x_min (head_of font);
      y_min = y_min (head_of font);
      x_max = x_max (head_of font);
      y_max = y_max (head_of font);
      ascender = ascender (hhea_of font);
      descender = descender (hhea_of font);
    }
