-- The glyphs that a cut keeps, as marks (OpenType 1.9, glyf, Composite Glyph Description).
use Rattle.std.specs.Prelude.{◌≡◌, ℕ, nat_eq, Bool, true, List, [], length, Option, None, Some}
use Rattle.std.specs.List.{filter, list_any, range_with_len}
use Rattle.codes.specs.CharacterMap.{restricted}
use Rattle.codes.specs.Wanted.{member}
use Rattle.codes.specs.declared.code_range.CodeRange.{CodeRange}
use Rattle.font_glyph.specs.Marks.{has}
use Rattle.font_tables.specs.Fields.{glyph_count_of}
use Rattle.font_file.specs.Font.{map_of}
use Rattle.font_theory.specs.Content.{Content, Wanted, content, is_kept, is_root}
use Rattle.font_theory.specs.Kinds.{font_of, format_of, spelled_by}
use Rattle.font_theory.specs.declared.kinds.Kind.{Kind}

-- what is asked for
pub record Asked : Type 0 where
  pub ranges : Option (List CodeRange)  -- the codes in some ranges, or all
  pub numbers : Option (List ℕ)  -- the glyphs of some numbers, or all

-- the codes in some ranges, or all, and the glyphs of some numbers, or all
abbrev pub asked : Option (List CodeRange) → Option (List ℕ) → Asked
asked ranges numbers = record { ranges = ranges; numbers = numbers }

-- all codes and all glyphs
abbrev pub all_asked : Asked
all_asked = asked None None

-- codes alone
abbrev pub codes_asked : Option (List CodeRange) → Asked
codes_asked ranges = asked ranges (Some [])

-- the wanted codes: those in some ranges, or all
abbrev pub codes_wanted : Option (List CodeRange) → ℕ → Bool
codes_wanted None = λ _. true
codes_wanted (Some ranges) = member ranges

-- the wanted glyphs: those of some numbers, or all
abbrev pub glyphs_wanted : Option (List ℕ) → ℕ → Bool
glyphs_wanted None = λ _. true
glyphs_wanted (Some numbers) = λ g. list_any (λ h. nat_eq h g) numbers

-- the numbers below a count at which a test is true, ascending
abbrev pub numbers_in : (ℕ → Bool) → ℕ → List ℕ
numbers_in test count = filter test (range_with_len 0 count)

-- what is wanted
abbrev pub wanted_in : Asked → Wanted
wanted_in asked = record { codes = codes_wanted asked.ranges; glyphs = glyphs_wanted asked.numbers }

-- the character map of a file on the wanted codes
abbrev pub wanted_map : List ℕ → Option (List CodeRange) → ℕ → ℕ
wanted_map file wanted = restricted (codes_wanted wanted) (map_of file)

-- the roots of a cut of a kind are marked: .notdef, the glyphs of the wanted codes, and the wanted glyphs that are
-- there
pub record IsRootSet (kind : Kind) (file : List ℕ) (wanted : Wanted) (marks : List Bool) : Type 0 where
  pub count : length marks ≡ glyph_count_of file
  pub roots : (g : ℕ) → has marks g ≡ is_root (font_of kind file) wanted g

-- the glyphs that a cut of a kind keeps are marked
pub record IsKeptSet (kind : Kind) (file : List ℕ) (wanted : Wanted) (marks : List Bool) : Type 0 where
  pub count : length marks ≡ glyph_count_of file
  pub kept : (g : ℕ) → has marks g ≡ is_kept (font_of kind file) wanted g

-- what is selected of a file for what is asked, as cuts of a kind read it
abbrev pub selected : Kind × (List ℕ × Asked) → Content
selected cut = content (font_of cut.0 cut.1.0) (wanted_in cut.1.1)

-- the content that the cut of a file for what is asked is written as, of a kind
unfoldable pub written_content : Kind × (List ℕ × Asked) → Content
written_content cut = spelled_by cut.0 (content ((format_of cut.0).font cut.1.0) (wanted_in cut.1.1))
