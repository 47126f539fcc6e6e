-- Variation data of glyphs that are open (OpenType 1.9, gvar: Glyph Variations Table).
use Rattle.std.specs.Prelude.{◌≡◌, ℕ, List, [], Option, IfSome, is_some, if◌then◌else◌}
use Rattle.std.specs.Option.{option_map, option_map_or}
use Rattle.sfnt_bytes.specs.declared.tag.TheConstants.{GVAR}
use Rattle.font_variations.specs.Gvar.{data_of}
use Rattle.font_theory.specs.Content.{Content, glyph_count}
use Rattle.font_theory.specs.Parted.{gvar_with, variation_data}
use Rattle.font_theory.specs.Parting.{Tables}
use Rattle.divided_tables.specs.PartedTable.{GlyphParts}

-- a `gvar` that is opened: its bytes, and the number of glyphs; None: there is none
abbrev pub OpenGvar : Type 0
OpenGvar = Option (List ℕ × ℕ)

-- that of some tables
abbrev pub opened_gvar : Tables → OpenGvar
opened_gvar copied = option_map (λ t. (t, glyph_count copied)) (copied GVAR)

-- the variation data of a glyph
abbrev pub data_in : OpenGvar → ℕ → List ℕ
data_in gvar g = option_map_or (λ v. data_of v.0 g) gvar []

-- the variation data of a font, and the number of its glyphs
pub record OpenVariations : Type 0 where
  pub gvar : OpenGvar
  pub count : ℕ

-- they are of as many glyphs
abbrev pub AreOfCount : OpenVariations → Type 0
AreOfCount v = IfSome v.gvar (λ gvar. gvar.1 ≡ v.count)

-- they are those of some tables
pub record AreVariationsOf (copied : Tables) (v : OpenVariations) : Type 0 where
  pub gvar_is : v.gvar ≡ opened_gvar copied
  pub count_is : v.count ≡ glyph_count copied

-- the data of each glyph
abbrev pub variations_parts : OpenVariations → GlyphParts
variations_parts v = record { count = v.count; part = data_in v.gvar }

-- the variation data of a glyph of two contents: those of the first where it keeps the glyph
abbrev pub either_data : Content → Content → ℕ → List ℕ
either_data C D g = if is_some (C.outline g) then variation_data C.copied g else variation_data D.copied g

-- the `gvar` of the union of two contents
abbrev pub united_gvar : Content → Content → Option (List ℕ)
united_gvar C D = option_map (gvar_with (either_data C D) (glyph_count C.copied)) (C.copied GVAR)
