-- Cuts and joins of files, and the order of files, this project's own, over any reader and writer of files.
use Rattle.std.specs.Prelude.{◌≡◌, ◌≢◌, ℕ, ◌≤◌, Bool, ◌&&◌, ◌||◌, ◌⊎◌, List, length, is_none, Option, None, Some}
use Rattle.std.specs.Str.{bytes_eq}
use Rattle.sfnt_bytes.specs.declared.directory.DirError.TheVariants.{FileTooLarge}
use Rattle.sfnt_bytes.specs.declared.directory.TheConstants.{MAX_FILE}
use Rattle.codes.specs.CharacterMap.{is_mapped}
use Rattle.font_file.specs.Font.{font_fault}
use Rattle.font_file.specs.declared.font_error.FontError.{FontError}
use Rattle.font_file.specs.declared.font_error.FontError.TheVariants.{Directory}
use Rattle.font_theory.specs.Content.{Content, Font, IsFont, Wanted, content, everything, plain_font, read_back}
use Rattle.font_theory.specs.File.{Writing, current_writing, file, writing_of}
use Rattle.font_theory.specs.Agreement.{Agree, both}
use Rattle.font_theory.specs.declared.Profile.TheVariants.{First}
use Rattle.font_theory.specs.declared.kinds.TheConstants.{SEQUENCES}
pub use Rattle.font_theory.specs.Content.{either_wanted}

-- a reader and a writer of files
pub record Format : Type 0 where
  pub fault : List ℕ → Option FontError  -- why a file is refused; None: it is accepted
  pub font : List ℕ → Font  -- what an accepted file means
  pub file : Content → List ℕ  -- what is written
  pub old : Content → List ℕ  -- what was written before, and is still read as a cut
  pub misfit : Content → Option ℕ  -- the slot of a table that has no room for its parts; None: all have
  pub limit : ℕ  -- the most bytes of a file

-- X is a file of K
abbrev pub Writes : Format → Content → List ℕ → Type 0
Writes R K X = (R.file K ≡ X) ⊎ (R.old K ≡ X)

-- a content that accepted files come to by cuts and joins
pub data Arises (R : Format) : Content → Type 0 where
  of_file : {K : Content} (X : List ℕ) (wanted : Wanted) → R.fault X ≡ None →
      content (R.font X) wanted ≡ K → Arises R K
  of_two : {K : Content} (L M : Content) → Arises R L → Arises R M → Agree L M → R.misfit (both L M) ≡ None →
      both L M ≡ K → Arises R K

-- what binds a reader and a writer
pub record IsFormat (R : Format) : Type 0 where
  pub is_font : (X : List ℕ) → R.fault X ≡ None → IsFont (R.font X)
  pub accepted_size : (X : List ℕ) → R.fault X ≡ None → length X ≤ R.limit
  pub refused_size :
      (X : List ℕ) (error : FontError) → R.fault X ≡ Some error → error ≢ Directory FileTooLarge →
      length X ≤ R.limit
  pub same_sequences :
      (X Y : List ℕ) → R.fault X ≡ None → R.fault Y ≡ None → (R.font X).copied SEQUENCES ≡ (R.font Y).copied SEQUENCES
  pub own_fit : (X : List ℕ) (W : Wanted) → R.fault X ≡ None → R.misfit (content (R.font X) W) ≡ None
  pub reads_back :
      (K : Content) (X : List ℕ) → Arises R K → Writes R K X → length X ≤ R.limit →
      (R.fault X ≡ None) × (R.font X ≡ read_back K)

-- the cut of a file for what is wanted
abbrev pub cut : Format → List ℕ → Wanted → List ℕ
cut R F wanted = R.file (content (R.font F) wanted)

-- the content of a file for all codes and all glyphs
abbrev pub content_of_all : Format → List ℕ → Content
content_of_all R X = content (R.font X) everything

-- X written anew: its cut for all codes and all glyphs
abbrev pub renewed : Format → List ℕ → List ℕ
renewed R X = R.file (content_of_all R X)

-- X is in cut form, be it the current one or the old one: accepted, and a file of its own content
pub record IsCut (R : Format) (X : List ℕ) : Type 0 where
  pub accepted : R.fault X ≡ None
  pub written : Writes R (content_of_all R X) X

-- an accepted file is in cut form
unfoldable pub is_cut : Format → List ℕ → Bool
is_cut R X = bytes_eq (R.file (content_of_all R X)) X || bytes_eq (R.old (content_of_all R X)) X

-- X is current: accepted, and its own file as it is written
pub record IsCurrent (R : Format) (X : List ℕ) : Type 0 where
  pub accepted : R.fault X ≡ None
  pub written : R.file (content_of_all R X) ≡ X

-- an accepted file is current
unfoldable pub is_current : Format → List ℕ → Bool
is_current R X = bytes_eq (R.file (content_of_all R X)) X

-- X is an old cut: accepted, and its own file as it was written before
pub record IsOld (R : Format) (X : List ℕ) : Type 0 where
  pub accepted : R.fault X ≡ None
  pub written : R.old (content_of_all R X) ≡ X

-- an accepted file is an old cut
unfoldable pub is_old : Format → List ℕ → Bool
is_old R X = bytes_eq (R.old (content_of_all R X)) X

-- the codes that a file maps, none where it is refused
abbrev pub codes_of : Format → List ℕ → ℕ → Bool
codes_of R X c = is_none (R.fault X) && is_mapped (R.font X).map c

-- what a file has of what may be wanted: the codes that it maps, and the glyphs that are there
abbrev pub wanted_of : Format → List ℕ → Wanted
wanted_of R X = record { codes = codes_of R X; glyphs = λ g. is_none (R.fault X) && (R.font X).there g }

-- X is a cut of Z in some form, for what X has
pub record Under (R : Format) (X Z : List ℕ) : Type 0 where
  pub accepted : R.fault Z ≡ None
  pub written : Writes R (content (R.font Z) (wanted_of R X)) X

-- the file of both contents
abbrev pub joined : Format → List ℕ → List ℕ → List ℕ
joined R X Y = R.file (both (content_of_all R X) (content_of_all R Y))

-- the slot of a table that has no room for the parts of two files
abbrev pub misfit_of : Format → List ℕ → List ℕ → Option ℕ
misfit_of R X Y = R.misfit (both (content_of_all R X) (content_of_all R Y))

-- what two files need to be joined
pub record CanJoin (R : Format) (X Y : List ℕ) : Type 0 where
  pub first : IsCut R X
  pub second : IsCut R Y
  pub agree : Agree (content_of_all R X) (content_of_all R Y)
  pub fit : misfit_of R X Y ≡ None

-- the reader of this program, a form that is written, and one that is read as a cut too
abbrev pub format_with : Writing → Writing → Format
format_with w v =
    record { fault = font_fault; font = plain_font; file = file w; old = file v; misfit = λ _. None; limit = MAX_FILE }

-- the reader and the writer of this program, which reads cuts of the first profile too
unfoldable pub our_format : Format
our_format = format_with current_writing (writing_of First)
