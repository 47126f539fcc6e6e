-- The texts of refusals, by what was answered, this project's own.
use Rattle.std.specs.Prelude.{◌≡◌, ℕ, ◌<◌, List, [], length, Option, Some, None, Result, Ok, Err, MatchResult}
use Rattle.codes.specs.Text.{wanted_error_text}
use Rattle.codes.specs.declared.wanted.WantedError.TheVariants as wanted
use Rattle.font_file.specs.Text.{font_error_text}
use Rattle.font_file.specs.declared.font_error.FontError.{FontError}
use Rattle.font_join.specs.JoinText.{join_all_error_text, join_error_text}
use Rattle.font_join.specs.declared.join_error.JoinAllError.{JoinAllError}
use Rattle.font_join.specs.declared.join_error.JoinAllError.TheVariants.{At, NothingToJoin}
use Rattle.font_join.specs.declared.join_error.JoinError.{JoinError}
use Rattle.font_join.specs.declared.join_error.JoinError.TheVariants as joins
use Rattle.fontcut_c.specs.Answers.{IsInRoom, size_answer}
use Rattle.fontcut_c.specs.Errors.{error_of, which_at}
use Rattle.fontcut_c.specs.declared.answer.Answer.{Answer}
use Rattle.fontcut_c.specs.declared.refusal.Refusal.{Refusal}
use Rattle.fontcut_c.specs.declared.refusal.Refusal.TheVariants.{BadRange, Font, Join, NoMemory, Second, SmallRoom}
use Rattle.fontcut_c.specs.declared.refusal.Refusal.TheVariants.{TooLarge}

-- the text of a check, and none where the font is accepted
abbrev pub font_fault_text : Option FontError → List ℕ
font_fault_text None = []
font_fault_text (Some error) = font_error_text error

-- the text of a refusal, and none of one that is of this call alone, as where the room is too small
abbrev pub text_of_refusal : Refusal → List ℕ
text_of_refusal (Font error) = font_error_text error
text_of_refusal (Second error) = font_error_text error
text_of_refusal (Join error) = join_all_error_text error
text_of_refusal (BadRange index) = wanted_error_text wanted.BadRange
text_of_refusal NoMemory = wanted_error_text wanted.NoMemory
text_of_refusal (TooLarge size) = join_error_text (joins.TooLarge size)
text_of_refusal _ = []

-- the same, where there is one
abbrev pub text_of : Option Refusal → List ℕ
text_of None = []
text_of (Some error) = text_of_refusal error

-- the text of a refusal: that of the error that was answered
unfoldable pub refusal_text : Answer → List ℕ
refusal_text answer = text_of (error_of answer)

-- the refusal of a join names the file that is no cut as its step does
abbrev pub NamesByStep : ℕ → JoinError → Type 0
NamesByStep step (joins.NotACut which) = which ≡ which_at step
NamesByStep step _ = Unit {0}

-- the same of a list
abbrev pub NamesByItsStep : JoinAllError → Type 0
NamesByItsStep NothingToJoin = Unit {0}
NamesByItsStep (At step error) = NamesByStep step error

-- the same of each refusal
abbrev pub NamesFile : Refusal → Type 0
NamesFile (Join error) = NamesByItsStep error
NamesFile _ = Unit {0}

-- the text of what a call answers, and none where it is done
abbrev pub answer_text : Result ℕ Refusal → List ℕ
answer_text (Ok size) = []
answer_text (Err refusal) = text_of_refusal refusal

-- why a text is not written: out of memory, or the room is too small
abbrev pub IsTextRefusal : Answer → ℕ → Refusal → Type 0
IsTextRefusal answer room NoMemory = Unit {0}
IsTextRefusal answer room (SmallRoom size) = (size ≡ length (refusal_text answer)) × (room < size)
IsTextRefusal answer room _ = ⊥

-- what `fontcut_refusal_text` answers: a refusal leaves the room as it was
pub record AnswersText (asked : Answer) (old new : List ℕ) (answer : Answer) : Type 0 where
  pub outcome : Result ℕ Refusal
  pub told : answer ≡ size_answer outcome
  pub holds :
      MatchResult outcome (IsInRoom (refusal_text asked) old new)
      (λ refusal. (new ≡ old) × IsTextRefusal asked (length old) refusal)
