-- What the call for what a cut lacks or drops answers, this project's own. The numbers themselves are not said: tests
-- compare them with what the program prints.
use Rattle.std.specs.Prelude.{◌≡◌, ℕ, List, None, Some, Result, MatchResult}
use Rattle.font_coverage.specs.declared.loss_counts.Losses.{Losses}
use Rattle.font_file.specs.Font.{font_fault}
use Rattle.fontcut_c.specs.Answers.{size_answer}
use Rattle.fontcut_c.specs.Cutting.{AcceptsRequest, IsFirstBad, IsFirstUnknown}
use Rattle.fontcut_c.specs.Requests.{RawRequest}
use Rattle.fontcut_c.specs.declared.answer.Answer.{Answer}
use Rattle.fontcut_c.specs.declared.refusal.Refusal.{Refusal}
use Rattle.fontcut_c.specs.declared.refusal.Refusal.TheVariants.{BadRange, Font, NoGlyph, NoMemory}

-- the font and what is asked of it are accepted, and nothing is written but the numbers
abbrev pub IsCounted : List ℕ → RawRequest → ℕ → Type 0
IsCounted font a size = AcceptsRequest font a × (size ≡ 0)

-- why nothing is counted: the font, then the ranges in turn, then the numbers of glyphs, then memory
abbrev pub RefusesLost : List ℕ → RawRequest → Refusal → Type 0
RefusesLost font a (Font error) = font_fault font ≡ Some error
RefusesLost font a (BadRange k) = (font_fault font ≡ None) × IsFirstBad a.ranges k
RefusesLost font a (NoGlyph k) = IsFirstUnknown font a k
RefusesLost font a NoMemory = AcceptsRequest font a
RefusesLost font a _ = ⊥

-- what the call answers: a refusal leaves the numbers as they were
pub record AnswersLost (font : List ℕ) (a : RawRequest) (old new : Losses) (answer : Answer) : Type 0 where
  pub outcome : Result ℕ Refusal
  pub told : answer ≡ size_answer outcome
  pub holds : MatchResult outcome (IsCounted font a) (λ refusal. (new ≡ old) × RefusesLost font a refusal)
