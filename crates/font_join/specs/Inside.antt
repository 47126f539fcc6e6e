-- Words of private contracts and of proofs: no public clause names them.
use Rattle.font_join.specs.Join.{different, form_fault, too_long}
use Rattle.font_join.specs.JoinList.{Stands}
use Rattle.font_join.specs.Union.{listed_outline}
use Rattle.font_join.specs.declared.join_error.JoinError.{JoinError}
use Rattle.font_join.specs.declared.join_error.JoinError.TheVariants.{DifferentGlyph, Font, NoMemory, TooLarge}
use Rattle.font_join.specs.declared.join_error.Which.{Which}
use Rattle.font_join.specs.declared.join_error.Which.TheVariants.{Second}
use Rattle.font_file.specs.Font.{font_fault}
use Rattle.font_file.specs.declared.font_error.FontError.{FontError}
use Rattle.font_glyph.specs.RecordMap.{Records, union_of}
use Rattle.font_subset.specs.declared.open_error.OpenError.{OpenError}
use Rattle.font_subset.specs.declared.open_error.OpenError.TheVariants as open_errors
use Rattle.font_theory.specs.Agreement.{both}
use Rattle.font_theory.specs.Content.{CODES, Content}
use Rattle.font_theory.specs.Cut.{Arises, Format, IsCurrent, IsCut, content_of_all}
use Rattle.font_theory.specs.Difference.{difference, first_slot, is_different_code, is_different_table}
use Rattle.font_theory.specs.File.{file, current_writing}
use Rattle.font_theory.specs.declared.Difference.{Difference}
use Rattle.font_theory.specs.declared.Difference.TheVariants.{AtCode, AtTable}
use Rattle.font_theory.specs.Tree.{file_at}
use Rattle.sfnt_bytes.specs.Lines.{first_of_lines}
use Rattle.sfnt_bytes.specs.declared.directory.TheConstants.{MAX_FILE}
use Rattle.std.specs.List.{range_with_len}
use Rattle.std.specs.Option.{option_map}
use Rattle.std.specs.Prelude.{◌≡◌, ℕ, ◌<◌, ◌≤◌, List, length, Option, Some, [], find, ◌∷◌}

-- K is a content that accepted files come to, and C is what it is written as
pub record Spells (R : Format) (spelled : Content → Content) (C K : Content) : Type 0 where
  pub arises : Arises R K
  pub is : C ≡ spelled K

-- a file is current and not too large, and C is what its content is written as
pub record HoldsFile (R : Format) (spelled : Content → Content) (C : Content) (x : List ℕ) : Type 0 where
  pub form : IsCurrent R x
  pub spells : Spells R spelled C (content_of_all R x)
  pub written : x ≡ file current_writing C
  pub small : length x ≤ MAX_FILE

-- a file is too large
abbrev pub IsTooLargeFile : List ℕ → JoinError → Type 0
IsTooLargeFile z error = (error ≡ TooLarge (length z)) × (MAX_FILE < length z)

-- the first of some files is in cut form, and C is what its content is written as
pub record IsFirstUnion (R : Format) (spelled : Content → Content) (files : List (List ℕ)) (C : Content)
    : Type 0 where
  pub some : 0 < length files
  pub form : IsCut R (file_at files 0)
  pub spells : Spells R spelled C (content_of_all R (file_at files 0))

-- C is what the content of the file is written as that stands after all steps, the first of which joins the
-- first file with itself
pub record IsUnited (R : Format) (spelled : Content → Content) (files : List (List ℕ)) (C : Content)
    : Type 0 where
  pub some : 0 < length files
  pub last : List ℕ
  pub stands : Stands R files (length files) last
  pub holds : HoldsFile R spelled C last

-- the outlines of the first n glyphs have been taken, where there were none
pub record AreTaken (old now : List (Option (List ℕ))) (L : Records) (n : ℕ) : Type 0 where
  pub count : length now ≡ length old
  pub below : (g : ℕ) → g < n → listed_outline now g ≡ union_of (listed_outline old) L g
  pub above : (g : ℕ) → n ≤ g → listed_outline now g ≡ listed_outline old g

-- why one of two files is not opened
abbrev pub IsNoFont : Which → List ℕ → JoinError → Type 0
IsNoFont which x error = (fault : FontError) × (font_fault x ≡ Some fault) × (error ≡ Font which fault)

-- the refusal of a join one of whose fonts is not opened for cuts of a kind
abbrev pub join_error_of_open : Which → OpenError → JoinError
join_error_of_open which open_errors.NoMemory = NoMemory
join_error_of_open which (open_errors.Refused error) = Font which error

-- why an accepted file is not taken for a cut: out of memory, or it is none
abbrev pub IsFormRefusal : Format → Which → List ℕ → JoinError → Type 0
IsFormRefusal R which x NoMemory = Unit {0}
IsFormRefusal R which x error = form_fault R which x ≡ Some error

-- the first table or code that tells two contents apart
unfoldable pub early_difference : Content → Content → Option Difference
early_difference K L = first_of_lines
    (option_map AtTable (first_slot (is_different_table K L))
    ∷ option_map AtCode (find (is_different_code K L) (range_with_len 0 CODES))
    ∷ [])

-- the first refusal of a file that is added to a content, but for the size
unfoldable pub add_fault : Format → Content → List ℕ → Option JoinError
add_fault R K y =
    first_of_lines (form_fault R Second y
    ∷ option_map different (difference K (content_of_all R y))
    ∷ option_map too_long (R.misfit (both K (content_of_all R y))) ∷ [])

-- why a file is not added whose tables and codes do not differ: a glyph, or else a table that has no room
abbrev pub late_fault : Option ℕ → Option ℕ → Option JoinError
late_fault glyph misfit = first_of_lines (option_map DifferentGlyph glyph ∷ option_map too_long misfit ∷ [])

-- why a file is not added
abbrev pub IsAddRefusal : Format → Content → List ℕ → JoinError → Type 0
IsAddRefusal R K y NoMemory = Unit {0}
IsAddRefusal R K y error = add_fault R K y ≡ Some error

-- a content without its codes
abbrev pub without_codes : Content → Content
without_codes K = record {
  copied = K.copied;
  head = K.head;
  map = λ _. 0;
  outline = K.outline;
  parts = K.parts;
  there = K.there;
}
