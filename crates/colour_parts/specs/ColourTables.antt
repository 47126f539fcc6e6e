-- Colour tables of both versions (OpenType 1.9, COLR).
use Rattle.std.specs.Prelude.{ℕ, Bool, List, if◌then◌else◌}
use Rattle.font_theory.specs.Content.{glyph_count}
use Rattle.font_theory.specs.Parting.{Parting}
use Rattle.colour_tables.specs.LayerLists.{is_layer_table}
use Rattle.colour_parts.specs.LayerTables.{layer_way}
use Rattle.colour_parts.specs.PaintTables.{still_way, varying_way}
use Rattle.colour_parts.specs.Ways.{parting_by}

-- some tables are divided in one way, and all others in another
unfoldable pub either_parting : (ℕ → List ℕ → Bool) → Parting → Parting → Parting
either_parting test one other = record {
  frame = λ c t. if test (glyph_count c) t then one.frame c t else other.frame c t;
  part = λ c t g. if test (glyph_count c) t then one.part c t g else other.part c t g;
  whole = λ c t parts. if test (glyph_count c) t then one.whole c t parts else other.whole c t parts;
  fits = λ c t parts. if test (glyph_count c) t then one.fits c t parts else other.fits c t parts;
}

-- colour tables as fonts have them that do not vary: those of version 0 and those of version 1 are divided, and all
-- others are their own frames
unfoldable pub colours : Parting
colours = either_parting is_layer_table (parting_by layer_way) (parting_by still_way)

-- colour tables as fonts have them that vary: their frames have what varies
unfoldable pub varying_colours : Parting
varying_colours = either_parting is_layer_table (parting_by layer_way) (parting_by varying_way)
