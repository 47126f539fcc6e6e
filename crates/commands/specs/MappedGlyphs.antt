-- What `codes --glyphs` prints of a font, this project's own: each mapped code with its glyph and how far
-- that advances.
use Rattle.std.specs.Prelude.{ℕ, ◌-◌, List, ◌∷◌, ◌++◌, decimal, filter}
use Rattle.std.specs.List.{flat_map, range_with_len}
use Rattle.codes.specs.CharacterMap.{is_mapped}
use Rattle.codes.specs.declared.code_points.TheConstants.{CODES}
use Rattle.font_file.specs.Font.{map_of}
use Rattle.font_tables.specs.Metrics.{metric_of}
use Rattle.commands.specs.Check.{line}
use Rattle.codes.specs.Word.{code_word}

-- the line of a code: its word, the number of its glyph, and the advance width of that in font units
abbrev pub glyph_text : ℕ → ℕ → ℕ → List ℕ
glyph_text code glyph advance = line (code_word code ++ 32 ∷ decimal glyph ++ 32 ∷ decimal advance)

-- the line of a code of a font
abbrev pub glyph_line : List ℕ → ℕ → List ℕ
glyph_line file code = glyph_text code (map_of file code) (metric_of file (map_of file code)).0

-- the mapped codes from a given one on, ascending
unfoldable pub mapped_from : (ℕ → ℕ) → ℕ → List ℕ
mapped_from m from = filter (is_mapped m) (range_with_len from (CODES - from))

-- all that `codes --glyphs` prints of a font that is accepted
unfoldable pub glyphs_text : List ℕ → List ℕ
glyphs_text file = flat_map (glyph_line file) (mapped_from (map_of file) 0)
