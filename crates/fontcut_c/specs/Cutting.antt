-- What a call for a cut answers, this project's own: the first refusal, or the cut in the caller's room.
use Rattle.std.specs.Prelude.{◌≡◌, ℕ, ◌<◌, ◌≤◌, List, length, None, Some, Result, MatchResult, slice_index_or}
use Rattle.sfnt_bytes.specs.declared.directory.TheConstants.{MAX_FILE}
use Rattle.codes.specs.Wanted.{IsBadRange}
use Rattle.codes.specs.declared.code_range.CodeRange.{CodeRange}
use Rattle.commands.specs.Run.{HoldsOfFont, requested_cut, requested_fault}
use Rattle.font_file.specs.Font.{font_fault}
use Rattle.font_file.specs.declared.font_error.FontError.{FontError}
use Rattle.font_theory.specs.declared.kinds.Kind.{Kind}
use Rattle.fontcut_c.specs.Answers.{IsInRoom, size_answer}
use Rattle.fontcut_c.specs.Glyphs.{AreGlyphs, IsFirstNoGlyph}
use Rattle.fontcut_c.specs.Requests.{RawRequest, request_of}
use Rattle.fontcut_c.specs.declared.answer.Answer.{Answer}
use Rattle.fontcut_c.specs.declared.refusal.Refusal.{Refusal}
use Rattle.fontcut_c.specs.declared.refusal.Refusal.TheVariants.{BadRange, Font, NoGlyph, NoMemory, SmallRoom}
use Rattle.fontcut_c.specs.declared.refusal.Refusal.TheVariants.{TooLarge}

-- the range at an index
abbrev pub range_at : List CodeRange → ℕ → CodeRange
range_at ranges k = slice_index_or ranges k (record { first = 0; last = 0 })

-- the range at an index ends before it begins, or after the last code point
abbrev pub IsBadAt : List CodeRange → ℕ → Type 0
IsBadAt ranges k = IsBadRange (range_at ranges k).first (range_at ranges k).last

-- no range below an index is bad
abbrev pub AreGoodTo : List CodeRange → ℕ → Type 0
AreGoodTo ranges n = (k : ℕ) → k < n → IsBadAt ranges k → ⊥

-- no range is bad
abbrev pub AreGood : List CodeRange → Type 0
AreGood ranges = AreGoodTo ranges (length ranges)

-- the first bad range
pub record IsFirstBad (ranges : List CodeRange) (k : ℕ) : Type 0 where
  pub below : k < length ranges
  pub bad : IsBadAt ranges k
  pub before : AreGoodTo ranges k

-- the font is accepted, whatever cuts of its kind read besides, no range is bad, and all numbers are its glyphs
pub record AcceptsRequest (font : List ℕ) (a : RawRequest) : Type 0 where
  pub unrefused : font_fault font ≡ None
  pub good : AreGood a.ranges
  pub known : AreGlyphs font a.glyphs

-- what is asked is refused, where the font is accepted: the first bad range, or else the first number that is no glyph
abbrev pub IsFirstUnknown : List ℕ → RawRequest → ℕ → Type 0
IsFirstUnknown font a k = (font_fault font ≡ None) × AreGood a.ranges × IsFirstNoGlyph font a.glyphs k

-- why a font that is accepted refuses what is asked of it: the first bad range, or else the first number that is no
-- glyph
abbrev pub RefusesAsked : List ℕ → RawRequest → Refusal → Type 0
RefusesAsked font a (BadRange k) = (font_fault font ≡ None) × IsFirstBad a.ranges k
RefusesAsked font a (NoGlyph k) = IsFirstUnknown font a k
RefusesAsked font a _ = ⊥

-- the font is refused: as a font, or, where that accepts it and nothing that is asked is refused, for the cut
abbrev pub IsRefusedFor : Kind → List ℕ → RawRequest → FontError → Type 0
IsRefusedFor kind font a error =
    (requested_fault (request_of kind a) font ≡ Some error)
    × (font_fault font ≡ None → AreGood a.ranges × AreGlyphs font a.glyphs)

-- the size in bytes of the cut of a font that is accepted for it
pub record IsCutSize (kind : Kind) (font : List ℕ) (a : RawRequest) (size : ℕ) : Type 0 where
  pub accepted : AcceptsRequest font a
  pub opened : requested_fault (request_of kind a) font ≡ None
  pub size_is : size ≡ length (requested_cut (request_of kind a) font)

-- why the cut is not written: the font, then the ranges in turn, then the numbers of glyphs, then what cuts of the kind
-- read of the font besides, then memory or size, and then the room
abbrev pub RefusesSubset : Kind → List ℕ → RawRequest → ℕ → Refusal → Type 0
RefusesSubset kind font a room (Font error) = IsRefusedFor kind font a error
RefusesSubset kind font a room (BadRange k) = (font_fault font ≡ None) × IsFirstBad a.ranges k
RefusesSubset kind font a room (NoGlyph k) = IsFirstUnknown font a k
RefusesSubset kind font a room NoMemory = AcceptsRequest font a
RefusesSubset kind font a room (TooLarge size) = IsCutSize kind font a size × (MAX_FILE < size)
RefusesSubset kind font a room (SmallRoom size) =
    IsCutSize kind font a size × (size ≤ MAX_FILE) × (room < size)
RefusesSubset kind font a room _ = ⊥

-- the cut is in the room
pub record IsCutInRoom (kind : Kind) (font : List ℕ) (a : RawRequest) (old new : List ℕ) (size : ℕ)
    : Type 0 where
  pub accepted : AcceptsRequest font a
  pub opened : requested_fault (request_of kind a) font ≡ None
  pub small : size ≤ MAX_FILE
  pub holds : HoldsOfFont (request_of kind a) font
  pub written : IsInRoom (requested_cut (request_of kind a) font) old new size

-- what a call for a cut of a kind answers: a refusal leaves the room as it was
pub record AnswersSubset (kind : Kind) (font : List ℕ) (a : RawRequest) (old new : List ℕ)
    (answer : Answer)
    : Type 0 where
  pub outcome : Result ℕ Refusal
  pub told : answer ≡ size_answer outcome
  pub holds : MatchResult outcome (IsCutInRoom kind font a old new)
      (λ refusal. (new ≡ old) × RefusesSubset kind font a (length old) refusal)
