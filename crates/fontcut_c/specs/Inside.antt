-- Words of private contracts and of proofs: no public clause names them.
use Rattle.std.specs.Prelude.{◌≡◌, ℕ, ◌<◌, ◌≤◌, Bool, List, [], ◌∷◌, ◌++◌, drop, length, map, take, None}
use Rattle.std.specs.Prelude.{IfSome, Option, Some, if◌then◌else◌}
use Rattle.std.specs.Option.{option_map}
use Rattle.std.specs.List.{concat}
use Rattle.sfnt_bytes.specs.declared.directory.TheConstants.{MAX_FILE}
use Rattle.font_tables.specs.Fields.{glyph_count_of}
use Rattle.commands.specs.Run.{requested_fault}
use Rattle.font_file.specs.Font.{cmap_of, font_fault}
use Rattle.font_theory.specs.Content.{Content}
use Rattle.font_theory.specs.File.{current_writing, file}
use Rattle.font_theory.specs.declared.kinds.Kind.{Kind}
use Rattle.font_write.specs.Trace.{Trace}
use Rattle.font_subset.specs.CutOfKind.{cut_of, opened_font_cut}
use Rattle.font_subset.specs.KeptGlyphs.{asked, wanted_in}
use Rattle.font_subset.specs.declared.open_error.OpenError.{OpenError}
use Rattle.font_subset.specs.declared.open_error.OpenError.TheVariants as open_errors
use Rattle.fontcut_c.specs.Answers.{IsInRoom}
use Rattle.fontcut_c.specs.Cutting.{RefusesAsked}
use Rattle.fontcut_c.specs.ManyCuts.{AreSmallFiles, AreSmallTo, IsFirstLarge, RefusesOne, cuts_for, size_of_all}
use Rattle.fontcut_c.specs.Requests.{RawRequest, asked_at, closes_for, request_of, wished}
use Rattle.fontcut_c.specs.declared.wanted_set.WantedSet.{WantedSet}
use Rattle.fontcut_c.specs.declared.refusal.Refusal.{Refusal}
use Rattle.fontcut_c.specs.declared.refusal.Refusal.TheVariants.{BadText, Font, NoMemory, Second}
use Rattle.fontcut_c.specs.declared.refusal.Refusal.TheVariants.{SmallRoom, TooLarge}

-- what was shown to room: what is filled, or, where it is stopped, all of it and the byte that found no room
abbrev pub shown_to : List ℕ → ℕ → ℕ → Bool → List ℕ
shown_to out at odd stopped = if stopped then out ++ odd ∷ [] else take at out

-- room of that name that is filled up to a place
abbrev pub filling : ℕ → List ℕ → ℕ → ℕ → Bool → Trace
filling name out at odd stopped =
    record {
      fixed = name ∷ length out ∷ [];
      count = at;
      taken = Some (take at out);
      shown = Some (shown_to out at odd stopped);
      stopped = stopped;
    }

-- a file is in the room
pub record IsFileInRoom (bytes old new : List ℕ) (size : ℕ) : Type 0 where
  pub small : size ≤ MAX_FILE
  pub written : IsInRoom bytes old new size

-- a file is no larger than it may be, and larger than the room
abbrev pub IsLargerFile : List ℕ → ℕ → ℕ → Type 0
IsLargerFile bytes room size = (size ≡ length bytes) × (size ≤ MAX_FILE) × (room < size)

-- a file is too large, or larger than the room
abbrev pub RefusesFile : List ℕ → ℕ → Refusal → Type 0
RefusesFile bytes room (TooLarge size) = (size ≡ length bytes) × (MAX_FILE < size)
RefusesFile bytes room (SmallRoom size) = IsLargerFile bytes room size
RefusesFile bytes room _ = ⊥

-- a file is no larger than it may be
abbrev pub IsSmallFile : List ℕ → Type 0
IsSmallFile bytes = length bytes ≤ MAX_FILE

-- the join of files is larger than the room
abbrev pub RefusesJoined : List ℕ → ℕ → Refusal → Type 0
RefusesJoined bytes room (SmallRoom size) = IsLargerFile bytes room size
RefusesJoined bytes room _ = ⊥

-- a font was opened, and is accepted
abbrev pub IsOpenedFile : List ℕ → List ℕ → Type 0
IsOpenedFile file font = (font ≡ file) × (font_fault file ≡ None)

-- what refuses a request before memory is asked for: the font, and then what is asked of it
abbrev pub RefusesRequest : List ℕ → RawRequest → Refusal → Type 0
RefusesRequest font a (Font error) = font_fault font ≡ Some error
RefusesRequest font a refusal = RefusesAsked font a refusal

-- what refuses requests before memory is asked for: the font, and then the first request that is refused
abbrev pub RefusesAll : List ℕ → List RawRequest → ℕ → Refusal → Type 0
RefusesAll font all step (Font error) = (step ≡ 0) × (font_fault font ≡ Some error)
RefusesAll font all step refusal = RefusesOne font all step refusal

-- why an accepted font is not opened for the cut that is asked for: it is refused, or memory is
abbrev pub RefusesOpening : Kind → List ℕ → RawRequest → Refusal → Type 0
RefusesOpening kind font a (Font error) = requested_fault (request_of kind a) font ≡ Some error
RefusesOpening kind font a NoMemory = font_fault font ≡ None
RefusesOpening kind font a _ = ⊥

-- a font was opened for the cut that is asked for
abbrev pub IsOpenedForRequest : Kind → List ℕ → RawRequest → Kind × (List ℕ × Bool) → Type 0
IsOpenedForRequest kind font a opened =
    (opened ≡ (kind, (font, closes_for kind a))) × (requested_fault (request_of kind a) font ≡ None)

-- why the cuts of an opened font are not written
abbrev pub RefusesCuts : Kind → List ℕ → List RawRequest → ℕ → Refusal → Type 0
RefusesCuts kind font all room (Font error) = requested_fault (request_of kind (asked_at all 0)) font ≡ Some error
RefusesCuts kind font all room NoMemory = font_fault font ≡ None
RefusesCuts kind font all room (TooLarge size) =
    (requested_fault (request_of kind (asked_at all 0)) font ≡ None) × IsFirstLarge (cuts_for kind font all) size
RefusesCuts kind font all room (SmallRoom size) =
    (requested_fault (request_of kind (asked_at all 0)) font ≡ None) × AreSmallFiles (cuts_for kind font all)
    × (size ≡ size_of_all (cuts_for kind font all)) × (room < size)
RefusesCuts kind font all room _ = ⊥

-- what refuses a cut and its font before they are opened for a kind: the cut, or else the font
abbrev pub RefusesFonts : List ℕ → List ℕ → Refusal → Type 0
RefusesFonts cut font (Font error) = font_fault cut ≡ Some error
RefusesFonts cut font (Second error) = (font_fault cut ≡ None) × (font_fault font ≡ Some error)
RefusesFonts cut font _ = ⊥

-- the refusal of the second of two fonts, which is not opened for cuts of a kind
abbrev pub of_unopened_second : OpenError → Refusal
of_unopened_second open_errors.NoMemory = NoMemory
of_unopened_second (open_errors.Refused error) = Second error

-- what an opened font is asked for, and the cut for it
abbrev pub cut_of_set : Kind × (List ℕ × Bool) → WantedSet → List ℕ
cut_of_set font set =
    cut_of font.0 font.1.0 (wanted_in (asked (Some set.codes) (option_map (λ v. v.items) set.numbers)))

-- the cut of an opened font for what is asked
abbrev pub wished_cut : Kind × (List ℕ × Bool) → RawRequest → List ℕ
wished_cut font a = opened_font_cut font (wished a)

-- the files of sources, by their contents
abbrev pub files_of : {S : Type 0} → (S → Content) → List S → List (List ℕ)
files_of content_of sources = map (λ source. file current_writing (content_of source)) sources

-- the first n files are counted, and none of them is too large
pub record AreMeasured (files : List (List ℕ)) (n total : ℕ) : Type 0 where
  pub small : AreSmallTo files n
  pub total_is : total ≡ size_of_all (take n files)

-- bytes stand in room from a place on, and the rest of it is as it was
pub record IsPutAt (bytes : List ℕ) (at : ℕ) (old new : List ℕ) (size : ℕ) : Type 0 where
  pub size_is : size ≡ length bytes
  pub put : new ≡ take at old ++ (bytes ++ drop size (drop at old))

-- the first n files stand in room before a place, end to end, and their sizes are told
pub record ArePut (files : List (List ℕ)) (n at : ℕ) (old new sizes : List ℕ) : Type 0 where
  pub at_is : at ≡ length (concat (take n files))
  pub front : new ≡ concat (take n files) ++ drop at old
  pub sizes_are : take n sizes ≡ map (λ bytes. length bytes) (take n files)

-- a chart, if there is one, is of the mapping of a font, by its `cmap` and its number of glyphs
abbrev pub IsChartOf : List ℕ → Option (List ℕ × ℕ) → Type 0
IsChartOf font chart = IfSome chart (λ c. c ≡ (cmap_of font, glyph_count_of font))

-- why files are not written: memory, the first of them that is too large, or the room
abbrev pub RefusesFiles : List (List ℕ) → ℕ → Refusal → Type 0
RefusesFiles files room NoMemory = Unit {0}
RefusesFiles files room (TooLarge size) = IsFirstLarge files size
RefusesFiles files room (SmallRoom size) = AreSmallFiles files × (size ≡ size_of_all files) × (room < size)
RefusesFiles files room _ = ⊥

-- so many items are more than there is room for
abbrev pub RefusesRoom : ℕ → ℕ → Refusal → Type 0
RefusesRoom count room (SmallRoom size) = (size ≡ count) × (room < size)
RefusesRoom count room _ = ⊥

-- a text is not as it should be, or memory ran out
abbrev pub IsBadText : Refusal → Type 0
IsBadText (BadText index) = Unit {0}
IsBadText NoMemory = Unit {0}
IsBadText _ = ⊥
