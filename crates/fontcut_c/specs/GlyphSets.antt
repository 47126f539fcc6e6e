-- What the calls for sets of glyphs answer, this project's own: closures under the links of GSUB (OpenType 1.9, GSUB),
-- and what a file keeps.
use Rattle.std.specs.Prelude.{◌≡◌, ℕ, ◌<◌, true, List, length, None, Some, Result, MatchResult}
use Rattle.std.specs.List.{All}
use Rattle.font_file.specs.Font.{font_fault, map_of}
use Rattle.font_tables.specs.Fields.{glyph_count_of}
use Rattle.font_theory.specs.Closed.{is_start}
use Rattle.font_theory.specs.Content.{everything, is_kept}
use Rattle.font_theory.specs.Kinds.{fault_of, font_of, gsub_bytes}
use Rattle.font_theory.specs.declared.kinds.Kind.{Kind}
use Rattle.commands.specs.Run.{requested_cut}
use Rattle.substitutions.specs.Shaping.{BecomesInSteps}
use Rattle.font_subset.specs.CutOfKind.{closed_of, in_file, keeps_links}
use Rattle.font_subset.specs.KeptGlyphs.{glyphs_wanted, numbers_in}
use Rattle.font_subset.specs.OpenedFont.{cutting_fault}
use Rattle.fontcut_c.specs.Answers.{IsInRoom, size_answer}
use Rattle.fontcut_c.specs.Cutting.{AcceptsRequest, AreGood, IsFirstBad, IsFirstUnknown}
use Rattle.fontcut_c.specs.Requests.{RawRequest, request_of, wished}
use Rattle.fontcut_c.specs.Glyphs.{AreGlyphs}
use Rattle.fontcut_c.specs.declared.answer.Answer.{Answer}
use Rattle.fontcut_c.specs.declared.refusal.Refusal.{Refusal}
use Rattle.fontcut_c.specs.declared.refusal.Refusal.TheVariants.{BadRange, Font, NoGlyph, NoMemory, SmallRoom}

-- the glyphs of what is wanted, closed under the links of a font as cuts of a kind keep them, ascending
abbrev pub closure_of : Kind → List ℕ → RawRequest → List ℕ
closure_of kind font r =
    numbers_in (closed_of kind font (wished r)).glyphs (glyph_count_of font)

-- the same codes with just these glyphs, and what is asked with all that links lead to
abbrev pub exactly : RawRequest → List ℕ → RawRequest
exactly a glyphs =
    record { struct_size = a.struct_size; kind = a.kind; flags = 0; ranges = a.ranges; glyphs = glyphs }

abbrev pub closing : RawRequest → RawRequest
closing a = record { struct_size = a.struct_size; kind = a.kind; flags = 1; ranges = a.ranges; glyphs = a.glyphs }

-- the cut of a kind that keeps links, for a closure and without links, is the closed cut
abbrev pub IsForClosedCut : Kind → List ℕ → RawRequest → Type 0
IsForClosedCut kind font a =
    keeps_links kind ≡ true →
    requested_cut (request_of kind (exactly a (closure_of kind font a))) font
    ≡ requested_cut (request_of kind (closing a)) font

-- whatever steps GSUB takes, as a shaper applies it in any order, features and script: from .notdef, from the glyphs of
-- the codes and from those that are asked for it makes no glyph that is not in the closure
abbrev pub HasShaped : Kind → List ℕ → RawRequest → Type 0
HasShaped kind font a =
    All (λ byte. byte < 256) font → (list last : List ℕ) → BecomesInSteps (gsub_bytes kind font) list last
    → All (λ g. is_start (map_of font) (in_file font (wished a)) g ≡ true) list
    → All (λ g. g < glyph_count_of font → glyphs_wanted (Some (closure_of kind font a)) g ≡ true) last

-- the glyphs that a file keeps of itself as a cut of a kind, ascending
abbrev pub kept_of : Kind → List ℕ → List ℕ
kept_of kind font = numbers_in (is_kept (font_of kind font) everything) (glyph_count_of font)

-- the closure is in the room
pub record IsClosureInRoom (kind : Kind) (font : List ℕ) (r : RawRequest) (old new : List ℕ) (size : ℕ) : Type 0 where
  pub accepted : AcceptsRequest font r
  pub opened : cutting_fault true kind font ≡ None
  pub closes : IsForClosedCut kind font r
  pub shapes : HasShaped kind font r
  pub written : IsInRoom (closure_of kind font r) old new size

-- why it is not written: the font, then the ranges in turn, then the numbers of glyphs, then GSUB and what cuts of the
-- kind read of the font besides, and then memory or the room
abbrev pub RefusesClosure : Kind → List ℕ → RawRequest → ℕ → Refusal → Type 0
RefusesClosure kind font r room (Font error) =
    (cutting_fault true kind font ≡ Some error)
    × (font_fault font ≡ None → AreGood r.ranges × AreGlyphs font r.glyphs)
RefusesClosure kind font r room (BadRange k) = (font_fault font ≡ None) × IsFirstBad r.ranges k
RefusesClosure kind font r room (NoGlyph k) = IsFirstUnknown font r k
RefusesClosure kind font r room NoMemory = AcceptsRequest font r
RefusesClosure kind font r room (SmallRoom size) =
    AcceptsRequest font r × (cutting_fault true kind font ≡ None) × (size ≡ length (closure_of kind font r))
    × (room < size)
RefusesClosure kind font r room _ = ⊥

-- what `fontcut_closure` answers: a refusal leaves the room as it was
pub record AnswersClosure (kind : Kind) (font : List ℕ) (r : RawRequest) (old new : List ℕ) (answer : Answer) : Type 0
  where
    pub outcome : Result ℕ Refusal
    pub told : answer ≡ size_answer outcome
    pub holds : MatchResult outcome (IsClosureInRoom kind font r old new)
        (λ refusal. (new ≡ old) × RefusesClosure kind font r (length old) refusal)

-- what a file keeps is in the room
pub record IsKeptInRoom (kind : Kind) (font old new : List ℕ) (size : ℕ) : Type 0 where
  pub opened : fault_of kind font ≡ None
  pub written : IsInRoom (kept_of kind font) old new size

-- why it is not written: the font, and then memory or the room
abbrev pub RefusesKept : Kind → List ℕ → ℕ → Refusal → Type 0
RefusesKept kind font room (Font error) = fault_of kind font ≡ Some error
RefusesKept kind font room NoMemory = font_fault font ≡ None
RefusesKept kind font room (SmallRoom size) =
    (fault_of kind font ≡ None) × (size ≡ length (kept_of kind font)) × (room < size)
RefusesKept kind font room _ = ⊥

-- what `fontcut_kept` answers: a refusal leaves the room as it was
pub record AnswersKept (kind : Kind) (font old new : List ℕ) (answer : Answer) : Type 0 where
  pub outcome : Result ℕ Refusal
  pub told : answer ≡ size_answer outcome
  pub holds : MatchResult outcome (IsKeptInRoom kind font old new)
      (λ refusal. (new ≡ old) × RefusesKept kind font (length old) refusal)
