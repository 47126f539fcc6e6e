-- What a call for a join answers, this project's own: the first refusal, or the join in the caller's room.
use Rattle.std.specs.Prelude.{◌≡◌, ℕ, ◌<◌, ◌≤◌, List, length, Result, MatchResult}
use Rattle.sfnt_bytes.specs.declared.directory.TheConstants.{MAX_FILE}
use Rattle.font_theory.specs.Content.{Wanted}
use Rattle.font_theory.specs.Cut.{Format, cut}
use Rattle.font_theory.specs.Tree.{union_below}
use Rattle.font_theory.specs.Kinds.{format_of}
use Rattle.font_theory.specs.declared.kinds.Kind.{Kind}
use Rattle.font_join.specs.JoinList.{AllRefusalIsRight, AreCuts, IsAllJoined, IsAllRefusal, IsForSizeOf, IsLeastOf}
use Rattle.font_join.specs.declared.join_error.JoinAllError.{JoinAllError}
use Rattle.fontcut_c.specs.Answers.{IsInRoom, size_answer}
use Rattle.fontcut_c.specs.Text.{answer_text, refusal_text}
use Rattle.fontcut_c.specs.declared.answer.Answer.{Answer}
use Rattle.fontcut_c.specs.declared.refusal.Refusal.{Refusal}
use Rattle.fontcut_c.specs.declared.refusal.Refusal.TheVariants.{Join, SmallRoom}

-- the join of all files, of which there is one at least, over a format, is in the room: the least file of which all
-- files are cuts, and, where they are cuts of one font, its cut for all that they are for
pub record IsJoinInRoom (R : Format) (files : List (List ℕ)) (old new : List ℕ) (size : ℕ) : Type 0 where
  pub join : List ℕ
  pub joined : IsAllJoined R files join
  pub least : IsLeastOf R files join
  pub cuts : (F : List ℕ) (A : ℕ → Wanted) → AreCuts R F A files → join ≡ cut R F (union_below A (length files))
  pub small : size ≤ MAX_FILE
  pub written : IsInRoom join old new size

-- the join has this number of bytes, more than the room
pub record IsLargerJoin (R : Format) (files : List (List ℕ)) (room size : ℕ) : Type 0 where
  pub join : List ℕ
  pub joined : IsAllJoined R files join
  pub size_is : size ≡ length join
  pub small : size ≤ MAX_FILE
  pub over : room < size

-- a step is refused, and it is right that it is: cuts of one font are refused for memory or for size alone
pub record RefusesRightly (R : Format) (files : List (List ℕ)) (error : JoinAllError) : Type 0 where
  pub refused : IsAllRefusal R files error
  pub right : AllRefusalIsRight R files error
  pub cuts : (F : List ℕ) (A : ℕ → Wanted) → AreCuts R F A files → IsForSizeOf R F A files error

-- why the join is not written: a step is refused, or the room is too small
abbrev pub RefusesJoin : Format → List (List ℕ) → ℕ → Refusal → Type 0
RefusesJoin R files room (Join error) = RefusesRightly R files error
RefusesJoin R files room (SmallRoom size) = IsLargerJoin R files room size
RefusesJoin R files room _ = ⊥

-- what a call for a join of a kind answers: a refusal leaves the room as it was
pub record AnswersJoin (kind : Kind) (files : List (List ℕ)) (old new : List ℕ) (answer : Answer)
    : Type 0 where
  pub outcome : Result ℕ Refusal
  pub told : answer ≡ size_answer outcome
  pub text : refusal_text answer ≡ answer_text outcome
  pub holds : MatchResult outcome (IsJoinInRoom (format_of kind) files old new)
      (λ refusal. (new ≡ old) × RefusesJoin (format_of kind) files (length old) refusal)
