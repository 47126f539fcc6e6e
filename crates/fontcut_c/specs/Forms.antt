-- What the calls for the form of a cut answer, this project's own.
use Rattle.std.specs.Prelude.{◌≡◌, ℕ, ◌↔◌, IsTrue, Bool, List, None, Some, Result, MatchResult}
use Rattle.font_file.specs.Font.{font_fault}
use Rattle.font_theory.specs.Kinds.{fault_of}
use Rattle.font_theory.specs.declared.kinds.Kind.{Kind}
use Rattle.font_subset.specs.CutOfKind.{IsCutIn, kind_form}
use Rattle.font_subset.specs.declared.forms.CutForm.{CutForm}
use Rattle.fontcut_c.specs.Answers.{belongs_answer, form_answer}
use Rattle.fontcut_c.specs.declared.answer.Answer.{Answer}
use Rattle.fontcut_c.specs.declared.refusal.Refusal.{Refusal}
use Rattle.fontcut_c.specs.declared.refusal.Refusal.TheVariants.{Font, NoMemory, Second}

-- why one font is not looked into for cuts of a kind: it is refused for them, or else memory is
abbrev pub RefusesForm : Kind → List ℕ → Refusal → Type 0
RefusesForm kind font (Font error) = fault_of kind font ≡ Some error
RefusesForm kind font NoMemory = font_fault font ≡ None
RefusesForm kind font _ = ⊥

-- why two fonts are not compared for cuts of a kind: the cut is refused as a font, or the font is; the cut is
-- refused for cuts of the kind, or the font is; or memory is
abbrev pub RefusesPair : Kind → List ℕ → List ℕ → Refusal → Type 0
RefusesPair kind cut font (Font error) =
    (fault_of kind cut ≡ Some error) × (font_fault cut ≡ None → font_fault font ≡ None)
RefusesPair kind cut font (Second error) =
    (font_fault cut ≡ None) × (fault_of kind font ≡ Some error)
    × (font_fault font ≡ None → fault_of kind cut ≡ None)
RefusesPair kind cut font NoMemory = (font_fault cut ≡ None) × (font_fault font ≡ None)
RefusesPair kind cut font _ = ⊥

-- whether a file is a cut of a font, of a kind, both being accepted for cuts of the kind
pub record IsBelonging (kind : Kind) (cut font : List ℕ) (is : Bool) : Type 0 where
  pub cut_accepted : fault_of kind cut ≡ None
  pub font_accepted : fault_of kind font ≡ None
  pub exact : IsTrue is ↔ IsCutIn kind font cut

-- what a call for the form of a font as a cut of a kind answers
pub record AnswersForm (kind : Kind) (font : List ℕ) (answer : Answer) : Type 0 where
  pub outcome : Result CutForm Refusal
  pub told : answer ≡ form_answer outcome
  pub holds : MatchResult outcome (λ form. (fault_of kind font ≡ None) × (form ≡ kind_form kind font))
      (RefusesForm kind font)

-- what a call answers that asks whether a file is a cut of a font, of a kind
pub record AnswersBelonging (kind : Kind) (cut font : List ℕ) (answer : Answer) : Type 0 where
  pub outcome : Result Bool Refusal
  pub told : answer ≡ belongs_answer outcome
  pub holds : MatchResult outcome (IsBelonging kind cut font) (RefusesPair kind cut font)
