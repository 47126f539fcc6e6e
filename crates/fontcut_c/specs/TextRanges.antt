-- What the calls for texts and lists answer, this project's own: ranges in the caller's room. Those of a text have each
-- of its characters. What else a text needs, and which codes a list names, is not said: the tables of Unicode are
-- believed, and tests compare both with what the program does.
use Rattle.std.specs.Prelude.{◌≡◌, ℕ, ◌<◌, All, IsUtf8, List, chars, length, Result, MatchResult, true}
use Rattle.std.specs.Str.{IsValidUpTo}
use Rattle.codes.specs.declared.code_range.CodeRange.{CodeRange}
use Rattle.fontcut_c.specs.Answers.{IsInRoom, size_answer}
use Rattle.fontcut_c.specs.Requests.{codes_of_ranges}
use Rattle.fontcut_c.specs.declared.answer.Answer.{Answer}
use Rattle.fontcut_c.specs.declared.refusal.Refusal.{Refusal}
use Rattle.fontcut_c.specs.declared.refusal.Refusal.TheVariants.{BadText, NoMemory, SmallRoom}

-- each of these characters is in the ranges
abbrev pub HaveCharacters : List CodeRange → List ℕ → Type 0
HaveCharacters ranges letters = All (λ code. codes_of_ranges ranges code ≡ true) letters

-- ranges that have each character of a text are in the room
pub record AreNeededInRoom (text : List ℕ) (old new : List CodeRange) (size : ℕ) : Type 0 where
  pub is_text : IsUtf8 text
  pub ranges : List CodeRange
  pub characters : HaveCharacters ranges (chars text)
  pub written : IsInRoom ranges old new size

-- why none are: the first byte that is not UTF-8, memory, or the room
abbrev pub RefusesNeeded : List ℕ → ℕ → Refusal → Type 0
RefusesNeeded text room (BadText index) = ¬ (IsUtf8 text) × IsValidUpTo text index
RefusesNeeded text room NoMemory = IsUtf8 text
RefusesNeeded text room (SmallRoom size) = IsUtf8 text × (room < size)
RefusesNeeded text room _ = ⊥

-- what the call for what a text needs answers: a refusal leaves the room as it was
pub record AnswersNeeded (text : List ℕ) (old new : List CodeRange) (answer : Answer) : Type 0 where
  pub outcome : Result ℕ Refusal
  pub told : answer ≡ size_answer outcome
  pub holds : MatchResult outcome (AreNeededInRoom text old new)
      (λ refusal. (new ≡ old) × RefusesNeeded text (length old) refusal)

-- some ranges are in the room
pub record AreRangesInRoom (old new : List CodeRange) (size : ℕ) : Type 0 where
  pub ranges : List CodeRange
  pub written : IsInRoom ranges old new size

-- why none are: the list, memory, or the room
abbrev pub RefusesRanges : ℕ → Refusal → Type 0
RefusesRanges room (BadText index) = Unit {0}
RefusesRanges room NoMemory = Unit {0}
RefusesRanges room (SmallRoom size) = room < size
RefusesRanges room _ = ⊥

-- what the call for a list answers: a refusal leaves the room as it was
pub record AnswersRanges (old new : List CodeRange) (answer : Answer) : Type 0 where
  pub outcome : Result ℕ Refusal
  pub told : answer ≡ size_answer outcome
  pub holds : MatchResult outcome (AreRangesInRoom old new)
      (λ refusal. (new ≡ old) × RefusesRanges (length old) refusal)
