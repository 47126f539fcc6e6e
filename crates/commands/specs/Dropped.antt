-- What a cut drops of its font, by the bytes of both (OpenType 1.9, glyf, Composite Glyph Description).
use Rattle.std.specs.Prelude.{◌≡◌, ℕ, ◌<◌, Bool, true, List, []}
use Rattle.font_file.specs.Font.{map_of}
use Rattle.font_glyph.specs.Reach.{Reach}
use Rattle.font_tables.specs.Fields.{glyph_count_of}
use Rattle.font_tables.specs.Outlines.{outline_of}
use Rattle.font_theory.specs.Content.{Wanted}
use Rattle.font_theory.specs.Kinds.{partition_of, tables_of}
use Rattle.font_theory.specs.Parting.{parts_of}
use Rattle.font_theory.specs.declared.kinds.Kind.{Kind}

-- no chain of components leads to a glyph from .notdef, from the glyphs of wanted characters, or from wanted glyphs
pub record IsUnreached (font : List ℕ) (wanted : Wanted) (g : ℕ) : Type 0 where
  pub below : g < glyph_count_of font
  pub seeds : ℕ → Bool
  pub notdef : seeds 0 ≡ true
  pub of_codes : (c : ℕ) → wanted.codes c ≡ true → seeds (map_of font c) ≡ true
  pub of_glyphs : (r : ℕ) → wanted.glyphs r ≡ true → seeds r ≡ true
  pub unreached : Reach (outline_of font) seeds g → ⊥

-- such a glyph has no outline in a cut of a kind, and no metrics or variation data of its own
pub record DropsOthers (kind : Kind) (font : List ℕ) (wanted : Wanted) (made : List ℕ) : Type 0 where
  pub outlines : (g : ℕ) → IsUnreached font wanted g → outline_of made g ≡ []
  pub parts :
      (g : ℕ) → IsUnreached font wanted g → (slot : ℕ) →
      parts_of (partition_of kind) (tables_of kind made) slot g ≡ []
