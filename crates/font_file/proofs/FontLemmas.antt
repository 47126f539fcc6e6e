-- The first refusal of a file, by those of its parts.
use Rattle.std.proofs.Common.{◌≡◌, ℕ, ◌+◌, ◌-◌, ◌<◌, Bool, false, List, [], ◌∷◌, ◌++◌, find, get_or, map, Option, Some}
use Rattle.std.proofs.Common.{None, refl, sym, ap, subst, ◌∙◌, arith, zero-add}
use Rattle.std.specs.List.{range_with_len}
use Rattle.std.proofs.lemmas.Bool.{not-false}
use Rattle.std.proofs.lemmas.List.FromFn.{get_or-range_with_len, length-range_with_len}
use Rattle.std.specs.Option.{option_map, option_or}
use Rattle.sfnt_bytes.specs.Lines.{first_of_lines}
use Rattle.sfnt_bytes.specs.Refusals.{directory_fault, directory_lines}
use Rattle.sfnt_bytes.specs.declared.directory.DirError.{DirError}
use Rattle.sfnt_bytes.proofs.RangeLemmas.{range_with_len-step}
use Rattle.sfnt_bytes.proofs.LineLemmas.{find-none_at, first_of_lines-append, first_of_lines-map, option_map-none}
use Rattle.font_tables.specs.Refusals.{table_fault, table_lines}
use Rattle.font_tables.specs.Fields.{glyph_count_of}
use Rattle.font_tables.specs.declared.tables.TableError.{TableError}
use Rattle.font_tables.proofs.TableLemmas.{is_measured}
use Rattle.font_tables.specs.Outlines.{outline_of}
use Rattle.font_glyph.specs.Record.{IsRecord}
use Rattle.font_file.proofs.RecordLemmas.{is_record-tells}
use Rattle.font_map.specs.Refusals.{map_fault, map_lines}
use Rattle.font_map.specs.declared.mapping.MapError.{MapError}
use Rattle.font_file.specs.Font.{cmap_of, font_fault, glyph_lines, is_bad_glyph}
use Rattle.font_file.specs.declared.font_error.FontError.{FontError}
use Rattle.font_file.specs.declared.font_error.FontError.TheVariants.{BadGlyph, Directory, Mapping, Tables}

-- the lines of a part, before others
lines-then : {E : Type 0} (error : E → FontError) (lines : List (Option E)) (others : List (Option FontError))
    → first_of_lines (map (option_map error) lines ++ others) ≡ option_or (option_map error (first_of_lines lines))
    (first_of_lines others)
lines-then error lines others =
    first_of_lines-append (map (option_map error) lines) others
    ∙ ap (λ (first : Option FontError). option_or first (first_of_lines others)) (first_of_lines-map error lines)

first_of_lines-single : (line : Option FontError) → first_of_lines (line ∷ []) ≡ line
first_of_lines-single None = refl
first_of_lines-single (Some error) = refl

-- the first refusal of the records
abbrev pub glyph_fault : List ℕ → Option FontError
glyph_fault file = option_map BadGlyph (find (is_bad_glyph file) (range_with_len 0 (glyph_count_of file)))

pub font_fault_is : (file : List ℕ) → font_fault file
    ≡ option_or (option_map Directory (directory_fault file)) (option_or (option_map Tables (table_fault file))
    (option_or (option_map Mapping (map_fault (cmap_of file))) (glyph_fault file)))
unfolding font_fault directory_fault table_fault map_fault
font_fault_is file =
    lines-then Directory (directory_lines file) _
    ∙ ap (λ (rest : Option FontError). option_or (option_map Directory (first_of_lines (directory_lines file))) rest)
    (lines-then Tables (table_lines file) _
    ∙ ap (λ (rest : Option FontError). option_or (option_map Tables (first_of_lines (table_lines file))) rest)
    (lines-then Mapping (map_lines (cmap_of file)) (glyph_lines file)
    ∙ ap (λ (rest : Option FontError). option_or (option_map Mapping (first_of_lines (map_lines (cmap_of file)))) rest)
    (first_of_lines-single (glyph_fault file))))

-- a search through a range goes on where it has not found its number
pub find_step : (p : ℕ → Bool) (i n : ℕ) → i < n → p i ≡ false → find p (range_with_len i (n - i))
    ≡ find p (range_with_len (i + 1) (n - (i + 1)))
find_step p i n inside fails = ap (find p) (range_with_len-step i n inside) ∙ rw fails refl

no_glyph : (directory tables mapping glyph : Option FontError)
    → option_or directory (option_or tables (option_or mapping glyph)) ≡ None → glyph ≡ None
no_glyph None None None glyph h = h
no_glyph None None (Some error) glyph h = cc
no_glyph None (Some error) mapping glyph h = cc
no_glyph (Some error) tables mapping glyph h = cc

-- the directory of an accepted font is not refused
no_directory : (directory : Option DirError) (rest : Option FontError) → option_or (option_map Directory directory) rest
    ≡ None → directory ≡ None
no_directory None rest h = refl
no_directory (Some error) rest h = cc

pub directory_fault-accepted : (file : List ℕ) → font_fault file ≡ None → directory_fault file ≡ None
directory_fault-accepted file accepted = no_directory (directory_fault file) _ (sym (font_fault_is file) ∙ accepted)

-- nor are its tables
no_table : (directory : Option FontError) (tables : Option TableError) (rest : Option FontError)
    → option_or directory (option_or (option_map Tables tables) rest) ≡ None → tables ≡ None
no_table None None rest h = refl
no_table None (Some error) rest h = cc
no_table (Some error) tables rest h = cc

pub table_fault-accepted : (file : List ℕ) → font_fault file ≡ None → table_fault file ≡ None
table_fault-accepted file accepted = no_table (option_map Directory (directory_fault file)) (table_fault file) _
    (sym (font_fault_is file) ∙ accepted)

-- nor is its mapping
no_map : (directory tables : Option FontError) (mapping : Option MapError) (rest : Option FontError)
    → option_or directory (option_or tables (option_or (option_map Mapping mapping) rest)) ≡ None → mapping ≡ None
no_map None None None rest h = refl
no_map None None (Some error) rest h = cc
no_map None (Some error) mapping rest h = cc
no_map (Some error) tables mapping rest h = cc

map_fault-accepted : (file : List ℕ) → font_fault file ≡ None → map_fault (cmap_of file) ≡ None
map_fault-accepted file accepted =
    no_map (option_map Directory (directory_fault file)) (option_map Tables (table_fault file))
    (map_fault (cmap_of file)) (glyph_fault file) (sym (font_fault_is file) ∙ accepted)

-- nothing refuses a part of an accepted font
pub record IsAccepted (file : List ℕ) : Type 0 where
  pub directory : directory_fault file ≡ None
  pub tables : table_fault file ≡ None
  pub mapping : map_fault (cmap_of file) ≡ None

pub is_accepted : (file : List ℕ) → font_fault file ≡ None → IsAccepted file
is_accepted file accepted =
    record {
      directory = directory_fault-accepted file accepted;
      tables = table_fault-accepted file accepted;
      mapping = map_fault-accepted file accepted;
    }

-- an accepted font has a glyph
pub has_glyph : (file value : List ℕ) → file ≡ value → font_fault file ≡ None → 0 < glyph_count_of value
has_glyph file value same accepted =
    subst (λ (b : List ℕ). 0 < glyph_count_of b) same (is_measured file (table_fault-accepted file accepted)).glyphs

-- each glyph of an accepted font has a record
pub is_record-accepted : (file : List ℕ) (g : ℕ) → font_fault file ≡ None → g < glyph_count_of file
    → IsRecord (glyph_count_of file) (outline_of file g)
unfolding is_bad_glyph
is_record-accepted file g accepted inside =
    let none = no_glyph (option_map Directory (directory_fault file)) (option_map Tables (table_fault file))
    (option_map Mapping (map_fault (cmap_of file))) (glyph_fault file) (sym (font_fault_is file) ∙ accepted) in
    let n = glyph_count_of file in
    let long = length-range_with_len 0 n in
    let fine = find-none_at (is_bad_glyph file) (range_with_len 0 n) g 0 (option_map-none BadGlyph _ none)
    (omega arith) in
    let there : get_or (range_with_len 0 n) g 0 ≡ g = get_or-range_with_len 0 n g 0 inside ∙ zero-add g in
    is_record-tells n (outline_of file g) (not-false _ (sym (ap (is_bad_glyph file) there) ∙ fine))

-- the same of an outline that was looked up in a font
pub is_record-opened : (file value b : List ℕ) (g : ℕ) → file ≡ value → b ≡ outline_of file g → font_fault file ≡ None
    → g < glyph_count_of value → IsRecord (glyph_count_of value) b
is_record-opened file value b g same is accepted =
    subst (λ (v : List ℕ). g < glyph_count_of v → IsRecord (glyph_count_of v) b) same
    (λ inside. subst (IsRecord (glyph_count_of file)) (sym is) (is_record-accepted file g accepted inside))
