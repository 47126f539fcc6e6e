-- What a cut holds of its font, and what is answered where none is made, this project's own.
use Rattle.std.specs.Prelude.{◌≡◌, ℕ, ◌≤◌, ◌↔◌, Bool, true, false, nat_eq, ◌&&◌, if◌then◌else◌, List, [], length, take}
use Rattle.std.specs.Prelude.{Option, None}
use Rattle.sfnt_bytes.specs.Findings.{findings_of}
use Rattle.sfnt_bytes.specs.declared.directory.TheConstants.{MAX_FILE}
use Rattle.font_tables.specs.Metrics.{metric_of}
use Rattle.font_tables.specs.Outlines.{outline_of}
use Rattle.font_glyph.specs.Reach.{Reach}
use Rattle.font_file.specs.Font.{font_fault, map_of}
use Rattle.font_theory.specs.Bytes.{padded}
use Rattle.font_theory.specs.Content.{content, of_codes, plain_font}
use Rattle.font_theory.specs.Cut.{Format, IsCurrent, IsCut, IsOld, Writes, cut, is_current, is_old}
use Rattle.font_theory.specs.Kinds.{format_of}
use Rattle.font_theory.specs.declared.kinds.Kind.{Kind}
use Rattle.font_theory.specs.declared.kinds.Kind.TheVariants.{Full}
use Rattle.streams.specs.Outlet.{WentOut, broken_of, written_of}
pub use Rattle.font_write.specs.WholeFile.{IsTooLarge, IsWritten}
use Rattle.font_write.specs.declared.cut_error.CutError.{CutError}
use Rattle.font_write.specs.declared.cut_error.CutError.TheVariants as cut_errors
use Rattle.font_write.specs.declared.cut_error.CutIntoError.{CutIntoError}
use Rattle.font_write.specs.declared.cut_error.CutIntoError.TheVariants as into_errors
use Rattle.font_subset.specs.declared.forms.CutForm.{CutForm}
use Rattle.font_subset.specs.declared.forms.CutForm.TheVariants.{Current, Not, Old}
use Rattle.streams.specs.declared.outlet.Outlet.{Outlet}

-- the cut of a file for the wanted codes
abbrev pub full_cut : List ℕ → (ℕ → Bool) → List ℕ
full_cut file wanted = cut (format_of Full) file (of_codes wanted)

-- the form in which an accepted file is its own cut for all codes
unfoldable pub form_in : Format → List ℕ → CutForm
form_in R file = if is_current R file then Current else if is_old R file then Old else Not

abbrev pub cut_form_of : List ℕ → CutForm
cut_form_of file = form_in (format_of Full) file

-- a form says whether an accepted file is current for a kind, or only an old cut, or neither
pub record IsFormIn (kind : Kind) (file : List ℕ) (form : CutForm) : Type 0 where
  pub current : (form ≡ Current) ↔ IsCurrent (format_of kind) file
  pub old : (form ≡ Old) ↔ (IsOld (format_of kind) file × (¬ IsCurrent (format_of kind) file))
  pub neither : (form ≡ Not) ↔ ¬ IsCut (format_of kind) file

-- the same of full cuts, of which no file is both
pub record IsFormOf (file : List ℕ) (form : CutForm) : Type 0 where
  pub current : (form ≡ Current) ↔ IsCurrent (format_of Full) file
  pub old : (form ≡ Old) ↔ IsOld (format_of Full) file
  pub neither : (form ≡ Not) ↔ ¬ IsCut (format_of Full) file

-- a file is a cut of another for the wanted codes, in some form
abbrev pub IsCutOf : List ℕ → (ℕ → Bool) → List ℕ → Type 0
IsCutOf file wanted made = Writes (format_of Full) (content ((format_of Full).font file) (of_codes wanted)) made

-- a file is a cut of another for some codes, in some form
abbrev pub IsCutForSome : List ℕ → List ℕ → Type 0
IsCutForSome file made = (wanted : ℕ → Bool) × IsCutOf file wanted made

-- why there is no cut in memory: out of memory, or the cut is too large
abbrev pub IsCutRefusal : List ℕ → CutError → Type 0
IsCutRefusal cut cut_errors.NoMemory = Unit {0}
IsCutRefusal cut (cut_errors.TooLarge size) = IsTooLarge cut size

-- why a cut was not sent, and what was: nothing before a write failed, and else a front of it, which is not
-- too large
abbrev pub StopsCut : {W : Type 0} → (W → Option (List ℕ)) → Outlet W → Outlet W → List ℕ → CutIntoError →
    Type 0
StopsCut contents old new cut into_errors.NoMemory = new ≡ old
StopsCut contents old new cut (into_errors.TooLarge size) = (new ≡ old) × IsTooLarge cut size
StopsCut contents old new cut (into_errors.WriteFault written) =
    (length cut ≤ MAX_FILE) × (broken_of new ≡ true) × (written ≡ written_of new)
    × WentOut contents old new (take written cut)

-- a cut is accepted, has no finding, has the font's metrics and the font's tables that are copied, maps the
-- wanted codes as the font does and no others, and keeps the outlines of what their glyphs lead to, up to zeros
-- after them; and its cuts are the font's, for the codes in both sets
pub record IsSound (file : List ℕ) (wanted : ℕ → Bool) (made : List ℕ) : Type 0 where
  pub accepted : font_fault made ≡ None
  pub clean : findings_of made ≡ []
  pub metrics : (g : ℕ) → metric_of made g ≡ metric_of file g
  pub copied : (slot : ℕ) → (plain_font made).copied slot ≡ (plain_font file).copied slot
  pub wanted_codes : (c : ℕ) → wanted c ≡ true → map_of made c ≡ map_of file c
  pub other_codes : (c : ℕ) → wanted c ≡ false → map_of made c ≡ 0
  pub kept :
      (c : ℕ) → wanted c ≡ true → (g : ℕ) → Reach (outline_of file) (nat_eq (map_of file c)) g →
      outline_of made g ≡ padded (outline_of file g)
  pub cut_form : IsCurrent (format_of Full) made
  pub cuts : (others : ℕ → Bool) → full_cut made others ≡ full_cut file (λ c. wanted c && others c)
