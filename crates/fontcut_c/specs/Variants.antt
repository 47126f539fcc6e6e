-- What the call for the variation sequences of a text answers, this project's own: numbers of glyphs in the caller's
-- room. Which they are is not said: tests compare them with a second reading of cmap.
use Rattle.std.specs.Prelude.{◌≡◌, ℕ, ◌<◌, IsUtf8, List, length, None, Some, Result, MatchResult}
use Rattle.std.specs.Str.{IsValidUpTo}
use Rattle.font_file.specs.Font.{font_fault}
use Rattle.fontcut_c.specs.Answers.{IsInRoom, size_answer}
use Rattle.fontcut_c.specs.declared.answer.Answer.{Answer}
use Rattle.fontcut_c.specs.declared.refusal.Refusal.{Refusal}
use Rattle.fontcut_c.specs.declared.refusal.Refusal.TheVariants.{BadText, Font, NoMemory, SmallRoom}

-- the font and the text are accepted
abbrev pub AcceptsText : List ℕ → List ℕ → Type 0
AcceptsText font text = (font_fault font ≡ None) × IsUtf8 text

-- some numbers are in the room
pub record AreVariantsInRoom (font text old new : List ℕ) (size : ℕ) : Type 0 where
  pub accepted : AcceptsText font text
  pub glyphs : List ℕ
  pub written : IsInRoom glyphs old new size

-- why none are: the font, then the first byte that is not UTF-8, and then memory or the room
abbrev pub RefusesVariants : List ℕ → List ℕ → ℕ → Refusal → Type 0
RefusesVariants font text room (Font error) = font_fault font ≡ Some error
RefusesVariants font text room (BadText index) = (font_fault font ≡ None) × ¬ (IsUtf8 text) × IsValidUpTo text index
RefusesVariants font text room NoMemory = AcceptsText font text
RefusesVariants font text room (SmallRoom size) = AcceptsText font text × (room < size)
RefusesVariants font text room _ = ⊥

-- what `fontcut_variants` answers: a refusal leaves the room as it was
pub record AnswersVariants (font text old new : List ℕ) (answer : Answer) : Type 0 where
  pub outcome : Result ℕ Refusal
  pub told : answer ≡ size_answer outcome
  pub holds : MatchResult outcome (AreVariantsInRoom font text old new)
      (λ refusal. (new ≡ old) × RefusesVariants font text (length old) refusal)
