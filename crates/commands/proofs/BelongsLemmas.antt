-- Why two files are not compared.
use Rattle.std.proofs.Common.{◌≡◌, ℕ, List, None, Some, inl, inr, refl, sym, subst}
use Rattle.font_file.specs.declared.font_error.FontError.{FontError}
use Rattle.font_theory.specs.declared.kinds.Kind.{Kind}
use Rattle.font_theory.specs.Kinds.{fault_of}
use Rattle.font_file.specs.Font.{font_fault}
use Rattle.font_theory.proofs.KindLemmas.{kind_is}
use Rattle.font_subset.specs.OpenedFont.{IsOpenRefusal}
use Rattle.font_subset.specs.declared.open_error.OpenError.{OpenError}
use Rattle.font_subset.specs.declared.open_error.OpenError.TheVariants as open_errors
use Rattle.font_join.specs.declared.join_error.Which.{Which}
use Rattle.font_join.specs.declared.join_error.Which.TheVariants.{First, Second}
use Rattle.commands.specs.Belongs.{IsUnanswered, IsUnopened, of_unopened}
use Rattle.commands.specs.declared.run_error.RunError.{RunError}
use Rattle.commands.specs.declared.run_error.RunError.TheVariants.{OneOf}

-- what is refused as a font is refused for cuts of each kind
pub no_font : (kind : Kind) (which : Which) (file : List ℕ) (error : FontError) → font_fault file ≡ Some error
    → IsUnopened kind which file (OneOf which error)
no_font kind which file error h = inr (error, (kind_is kind).refused file error h, refl)

pub not_opened : (kind : Kind) (which : Which) (file : List ℕ) (error : OpenError) → IsOpenRefusal kind file error
    → IsUnopened kind which file (of_unopened which error)
not_opened kind which file open_errors.NoMemory h = inl refl
not_opened kind which file (open_errors.Refused error) h = inr (error, h, refl)

-- the first of two, and the second
pub first_unopened : (kind : Kind) (cut font : List ℕ) (error : RunError) → IsUnopened kind First cut error
    → IsUnanswered kind cut font error
first_unopened kind cut font error told = elim told [
  | inl e ↦ subst (IsUnanswered kind cut font) (sym e) tt
  | inr w ↦ subst (IsUnanswered kind cut font) (sym w.2) w.1
]

pub second_unopened : (kind : Kind) (cut font : List ℕ) (error : RunError) → fault_of kind cut ≡ None
    → IsUnopened kind Second font error → IsUnanswered kind cut font error
second_unopened kind cut font error ok told = elim told [
  | inl e ↦ subst (IsUnanswered kind cut font) (sym e) tt
  | inr w ↦ subst (IsUnanswered kind cut font) (sym w.2) (ok, w.1)
]
