-- The numbers of the kinds of cuts for C, this project's own, and what a call answers that is given one.
use Rattle.std.specs.Prelude.{◌≡◌, ℕ, Bool, true, List, [], ◌∷◌, length, nat_eq, Option, MatchOption}
use Rattle.sfnt_bytes.specs.Lines.{first_of_lines, when}
use Rattle.font_theory.specs.declared.kinds.Kind.{Kind}
use Rattle.font_theory.specs.declared.kinds.Kind.TheVariants.{Full, Layout, Lean, Variable}
use Rattle.fontcut_c.specs.Answers.{unknown_kind}
use Rattle.fontcut_c.specs.declared.answer.Answer.{Answer}

-- the kind of a number, and none for a number that is no kind's
unfoldable pub kind_of : ℕ → Option Kind
kind_of number =
    let is = nat_eq number in
    first_of_lines (when (is 0) Full ∷ when (is 1) Lean ∷ when (is 2) Layout ∷ when (is 3) Variable ∷ [])

-- what a call answers that is given the number of a kind: what it says of that kind, or that there is none
abbrev pub AnswersInKind : ℕ → Answer → (Kind → Type 0) → Type 0
AnswersInKind number answer says = MatchOption (kind_of number) (answer ≡ unknown_kind number) says

-- cuts of a kind can be asked for glyphs by number: full cuts for none
abbrev pub takes_glyphs : Kind → List ℕ → Bool
takes_glyphs Full glyphs = nat_eq (length glyphs) 0
takes_glyphs Lean glyphs = true
takes_glyphs Layout glyphs = true
takes_glyphs Variable glyphs = true

-- a number is that of a kind, of which this holds
abbrev pub HoldsInKind : ℕ → (Kind → Type 0) → Type 0
HoldsInKind number holds = MatchOption (kind_of number) ⊥ holds
