-- What a font that was opened keeps of its file (OpenType 1.9, Organization of an OpenType Font).
use Rattle.std.specs.Prelude.{◌≡◌, ℕ, List, None}
use Rattle.font_tables.specs.Fields.{glyph_count_of}
use Rattle.font_file.specs.Font.{cmap_of, font_fault}

-- the file is accepted, and the mapping is that of its `cmap` to its glyphs
pub record IsOpenedFont (file : List ℕ) (mapping : List ℕ × ℕ) : Type 0 where
  pub accepted : font_fault file ≡ None
  pub mapping_is : mapping ≡ (cmap_of file, glyph_count_of file)
