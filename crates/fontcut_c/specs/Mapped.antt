-- What the call for the mapped codes answers, this project's own: the ranges that `codes` prints.
use Rattle.std.specs.Prelude.{◌≡◌, ℕ, ◌<◌, List, length, None, Some, Result, MatchResult}
use Rattle.font_file.specs.Font.{cmap_of, font_fault}
use Rattle.font_tables.specs.Fields.{glyph_count_of}
use Rattle.font_map.specs.Mapping.{mapping_of}
use Rattle.commands.specs.Codes.{code_ranges}
use Rattle.fontcut_c.specs.Answers.{IsInRoom, size_answer}
use Rattle.fontcut_c.specs.declared.answer.Answer.{Answer}
use Rattle.codes.specs.declared.code_range.CodeRange.{CodeRange}
use Rattle.fontcut_c.specs.declared.refusal.Refusal.{Refusal}
use Rattle.fontcut_c.specs.declared.refusal.Refusal.TheVariants.{Font, NoMemory, SmallRoom}

-- the ranges of the mapped codes of a file
abbrev pub listed_of : List ℕ → List CodeRange
listed_of file = code_ranges (mapping_of (cmap_of file) (glyph_count_of file)) 0

-- the ranges are in the room
pub record IsListInRoom (font : List ℕ) (old new : List CodeRange) (size : ℕ) : Type 0 where
  pub accepted : font_fault font ≡ None
  pub written : IsInRoom (listed_of font) old new size

-- why the ranges are not written: the font, and then memory or the room
abbrev pub RefusesList : List ℕ → ℕ → Refusal → Type 0
RefusesList font room (Font error) = font_fault font ≡ Some error
RefusesList font room NoMemory = font_fault font ≡ None
RefusesList font room (SmallRoom size) =
    (font_fault font ≡ None) × (size ≡ length (listed_of font)) × (room < size)
RefusesList font room _ = ⊥

-- what `fontcut_codes` answers: a refusal leaves the room as it was
pub record AnswersCodes (font : List ℕ) (old new : List CodeRange) (answer : Answer) : Type 0 where
  pub outcome : Result ℕ Refusal
  pub told : answer ≡ size_answer outcome
  pub holds :
      MatchResult outcome (IsListInRoom font old new)
      (λ refusal. (new ≡ old) × RefusesList font (length old) refusal)
