-- What the join of two files answers, this project's own, over the format of the cuts that are joined.
use Rattle.std.specs.Prelude.{◌≡◌, ◌≢◌, ℕ, ◌<◌, nat_eq, nat_lt, not, if◌then◌else◌, List, [], ◌∷◌, ◌++◌}
use Rattle.std.specs.Prelude.{length, Option, None, Some}
use Rattle.std.specs.Option.{option_map, option_or}
use Rattle.sfnt_bytes.specs.Directory.{slot_tag}
use Rattle.sfnt_bytes.specs.Lines.{first_of_lines, when}
use Rattle.sfnt_bytes.specs.declared.directory.DirError.TheVariants.{FileTooLarge}
use Rattle.sfnt_bytes.specs.declared.directory.TheConstants.{MAX_FILE}
use Rattle.sfnt_bytes.specs.declared.tag.Tag.{Tag}
use Rattle.sfnt_bytes.specs.declared.tag.TheConstants.{CMAP}
use Rattle.font_file.specs.Font.{font_fault}
use Rattle.font_file.specs.declared.font_error.FontError.TheVariants.{Directory}
use Rattle.font_write.specs.declared.cut_error.CutError.{CutError}
use Rattle.font_write.specs.declared.cut_error.CutError.TheVariants as cut_errors
use Rattle.font_theory.specs.Cut.{Format, IsCurrent, Under, is_cut, joined, content_of_all, misfit_of}
use Rattle.font_theory.specs.Difference.{difference}
use Rattle.font_theory.specs.Agreement.{Agree}
use Rattle.font_theory.specs.declared.kinds.TheConstants.{SEQUENCES}
use Rattle.font_theory.specs.declared.Difference.{Difference}
use Rattle.font_theory.specs.declared.Difference.TheVariants.{AtCode, AtGlyph, AtTable}
use Rattle.font_join.specs.declared.join_error.JoinError.{JoinError}
use Rattle.font_join.specs.declared.join_error.JoinError.TheVariants.{DifferentGlyph, DifferentMapping, DifferentTable}
use Rattle.font_join.specs.declared.join_error.JoinError.TheVariants.{Font, NoMemory, NotACut, TableTooLong, TooLarge}
use Rattle.font_join.specs.declared.join_error.Which.{Which}
use Rattle.font_join.specs.declared.join_error.Which.TheVariants.{First, Second}

-- the refusal for a difference
abbrev pub different : Difference → JoinError
different (AtTable slot) = DifferentTable (slot_tag slot)
different (AtCode code) = DifferentMapping code
different (AtGlyph g) = DifferentGlyph g

-- the tag of the table of a slot: variation sequences stand in `cmap`
abbrev pub tag_of_table : ℕ → Tag
tag_of_table slot = if nat_eq slot SEQUENCES then slot_tag CMAP else slot_tag slot

-- the refusal for a table that has no room for what both files have in it
abbrev pub too_long : ℕ → JoinError
too_long slot = TableTooLong (tag_of_table slot)

-- the refusal for a file that is not made
abbrev pub join_error_of_cut : CutError → JoinError
join_error_of_cut cut_errors.NoMemory = NoMemory
join_error_of_cut (cut_errors.TooLarge size) = TooLarge size

-- why an accepted file is not taken for a cut: what cuts of its kind read besides is refused, or it is no cut;
-- of full and lean cuts the first cannot be
unfoldable pub form_fault : Format → Which → List ℕ → Option JoinError
form_fault R which x = option_or (option_map (Font which) (R.fault x)) (when (not (is_cut R x)) (NotACut which))

-- the refusals of two accepted files but for the size of their join, in their order
abbrev pub union_lines : Format → List ℕ → List ℕ → List (Option JoinError)
union_lines R x y =
    form_fault R First x
    ∷ form_fault R Second y
    ∷ option_map different (difference (content_of_all R x) (content_of_all R y))
    ∷ option_map too_long (misfit_of R x y)
    ∷ []

-- the first of them that applies
unfoldable pub union_fault : Format → List ℕ → List ℕ → Option JoinError
union_fault R x y = first_of_lines (union_lines R x y)

-- the refusals of a join, in their order
abbrev pub join_lines : Format → List ℕ → List ℕ → List (Option JoinError)
join_lines R x y =
    option_map (Font First) (font_fault x)
    ∷ option_map (Font Second) (font_fault y)
    ∷ (union_lines R x y
    ++ (when (nat_lt MAX_FILE (length (joined R x y))) (TooLarge (length (joined R x y)))
    ∷ []))

-- the first of them that applies; with none the files are joined
unfoldable pub join_fault : Format → List ℕ → List ℕ → Option JoinError
join_fault R x y = first_of_lines (join_lines R x y)

-- why two accepted files are not united: out of memory, or the first refusal that applies
abbrev pub IsUnionRefusal : Format → List ℕ → List ℕ → JoinError → Type 0
IsUnionRefusal R x y NoMemory = Unit {0}
IsUnionRefusal R x y error = union_fault R x y ≡ Some error

-- z is the join: no refusal applies, and it is the file of both contents
pub record IsJoin (R : Format) (x y z : List ℕ) : Type 0 where
  pub unrefused : join_fault R x y ≡ None
  pub is : z ≡ joined R x y

-- why there is no join: out of memory, after the refusals of both fonts, or the first refusal that
-- applies
abbrev pub IsJoinRefusal : Format → List ℕ → List ℕ → JoinError → Type 0
IsJoinRefusal R x y NoMemory = (font_fault x ≡ None) × (font_fault y ≡ None)
IsJoinRefusal R x y error = join_fault R x y ≡ Some error

-- out of memory, or the size is too large
abbrev pub IsForSize : ℕ → JoinError → Type 0
IsForSize size NoMemory = Unit {0}
IsForSize size (TooLarge s) = (s ≡ size) × (MAX_FILE < size)
IsForSize size _ = ⊥

-- z is current, x and y are cuts of it, and it is a cut of each file of which both are cuts
pub record IsLeastUpper (R : Format) (x y z : List ℕ) : Type 0 where
  pub cut_form : IsCurrent R z
  pub first : Under R x z
  pub second : Under R y z
  pub least : (F : List ℕ) → Under R x F → Under R y F → Under R z F

-- what a refusal says: no file has both as cuts, or they agree and their join is too large
abbrev pub RefusalIsRight : Format → List ℕ → List ℕ → JoinError → Type 0
RefusalIsRight R x y NoMemory = Unit {0}
RefusalIsRight R x y (Font which error) =
    error ≢ Directory FileTooLarge → (F : List ℕ) → Under R x F → Under R y F → ⊥
RefusalIsRight R x y (TooLarge size) =
    Agree (content_of_all R x) (content_of_all R y) × (size ≡ length (joined R x y)) × (MAX_FILE < size)
RefusalIsRight R x y _ = (F : List ℕ) → Under R x F → Under R y F → ⊥
