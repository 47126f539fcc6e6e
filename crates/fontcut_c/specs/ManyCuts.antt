-- What the call for the cuts of many requests answers, this project's own: the first refusal, or the cuts end to end in
-- the caller's room, and the size of each.
use Rattle.std.specs.Prelude.{◌≡◌, ℕ, ◌-◌, ◌^◌, ◌<◌, ◌≤◌, min, List, [], length, map, Some}
use Rattle.std.specs.Prelude.{None, Result, MatchResult, slice_index_or}
use Rattle.std.specs.List.{concat}
use Rattle.sfnt_bytes.specs.declared.directory.TheConstants.{MAX_FILE}
use Rattle.commands.specs.Run.{requested_cut, requested_fault}
use Rattle.font_file.specs.Font.{font_fault}
use Rattle.font_theory.specs.declared.kinds.Kind.{Kind}
use Rattle.fontcut_c.specs.Answers.{IsInRoom, stepped_answer}
use Rattle.fontcut_c.specs.Cutting.{AcceptsRequest, RefusesAsked}
use Rattle.fontcut_c.specs.Requests.{RawRequest, asked_at, request_of}
use Rattle.fontcut_c.specs.declared.answer.Answer.{Answer}
use Rattle.fontcut_c.specs.declared.refusal.Refusal.{Refusal}
use Rattle.fontcut_c.specs.declared.refusal.Refusal.TheVariants.{BadRange, Font, NoGlyph, NoMemory}
use Rattle.fontcut_c.specs.declared.refusal.Refusal.TheVariants.{SmallRoom, TooLarge}

-- the cut of a font for each of the requests, of a kind
abbrev pub cuts_for : Kind → List ℕ → List RawRequest → List (List ℕ)
cuts_for kind font all = map (λ a. requested_cut (request_of kind a) font) all

-- a font is accepted, and nothing that the requests below an index ask of it is refused
abbrev pub AcceptsTo : List ℕ → List RawRequest → ℕ → Type 0
AcceptsTo font all n = (k : ℕ) → k < n → AcceptsRequest font (asked_at all k)

-- the same of all requests
abbrev pub AcceptsAll : List ℕ → List RawRequest → Type 0
AcceptsAll font all = AcceptsTo font all (length all)

-- the first request that is refused
pub record RefusesOne (font : List ℕ) (all : List RawRequest) (step : ℕ) (refusal : Refusal) : Type 0 where
  pub below : step < length all
  pub before : AcceptsTo font all step
  pub refused : RefusesAsked font (asked_at all step) refusal

-- no cut below an index is too large
abbrev pub AreSmallTo : List (List ℕ) → ℕ → Type 0
AreSmallTo cuts n = (k : ℕ) → k < n → length (slice_index_or cuts k []) ≤ MAX_FILE

-- no cut is too large
abbrev pub AreSmallFiles : List (List ℕ) → Type 0
AreSmallFiles cuts = AreSmallTo cuts (length cuts)

-- the size of the first cut that is too large
pub record IsFirstLarge (cuts : List (List ℕ)) (size : ℕ) : Type 0 where
  pub index : ℕ
  pub below : index < length cuts
  pub size_is : size ≡ length (slice_index_or cuts index [])
  pub large : MAX_FILE < size
  pub before : AreSmallTo cuts index

-- the number of bytes of all cuts, or the largest number of 64 bits where it is larger
abbrev pub size_of_all : List (List ℕ) → ℕ
size_of_all cuts = min (length (concat cuts)) (2 ^ 64 - 1)

-- why the cuts are not written, and at which request: the font, then what is asked of it, request by request, then what
-- cuts of the kind read of the font besides, then memory or the first cut that is too large, and then the room
abbrev pub RefusesSubsets : Kind → List ℕ → List RawRequest → ℕ → ℕ → Refusal → Type 0
RefusesSubsets kind font all room step (Font error) =
    (step ≡ 0) × (requested_fault (request_of kind (asked_at all 0)) font ≡ Some error)
    × (font_fault font ≡ None → AcceptsAll font all)
RefusesSubsets kind font all room step (BadRange k) = RefusesOne font all step (BadRange k)
RefusesSubsets kind font all room step (NoGlyph k) = RefusesOne font all step (NoGlyph k)
RefusesSubsets kind font all room step NoMemory = (step ≡ 0) × AcceptsAll font all
RefusesSubsets kind font all room step (TooLarge size) =
    (step ≡ 0) × AcceptsAll font all × (requested_fault (request_of kind (asked_at all 0)) font ≡ None)
    × IsFirstLarge (cuts_for kind font all) size
RefusesSubsets kind font all room step (SmallRoom size) =
    (step ≡ 0) × AcceptsAll font all × (requested_fault (request_of kind (asked_at all 0)) font ≡ None)
    × AreSmallFiles (cuts_for kind font all) × (size ≡ size_of_all (cuts_for kind font all)) × (room < size)
RefusesSubsets kind font all room step _ = ⊥

-- files are in the room, end to end, and the size of each in its place
pub record AreInRoom (cuts : List (List ℕ)) (old new sizes : List ℕ) (size : ℕ) : Type 0 where
  pub small : AreSmallFiles cuts
  pub written : IsInRoom (concat cuts) old new size
  pub sizes_are : sizes ≡ map (λ cut. length cut) cuts

-- the cuts of a font for the requests, of a kind, are
pub record AreCutsInRoom (kind : Kind) (font : List ℕ) (all : List RawRequest) (old new sizes : List ℕ)
    (size : ℕ) : Type 0 where
  pub accepted : AcceptsAll font all
  pub opened : requested_fault (request_of kind (asked_at all 0)) font ≡ None
  pub cuts : AreInRoom (cuts_for kind font all) old new sizes size

-- what a call for the cuts of many requests, of a kind, answers: a refusal leaves the room and the sizes as they were
pub record AnswersSubsets (kind : Kind) (font : List ℕ) (all : List RawRequest)
    (old new old_sizes sizes : List ℕ) (answer : Answer) : Type 0 where
  pub outcome : Result ℕ (ℕ × Refusal)
  pub told : answer ≡ stepped_answer outcome
  pub holds : MatchResult outcome (AreCutsInRoom kind font all old new sizes)
      (λ at. (new ≡ old) × (sizes ≡ old_sizes)
      × RefusesSubsets kind font all (length old) at.0 at.1)
