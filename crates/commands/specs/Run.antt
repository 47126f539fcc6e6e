-- What a run is given, and how it leaves its inlet and its outlet, this project's own.
use Rattle.std.specs.Prelude.{◌≡◌, ℕ, ◌+◌, ◌≤◌, Bool, false, true, length, nat_le, List, [], None, Option, IfErr}
use Rattle.std.specs.Prelude.{IfOk, IfSome}
use Rattle.std.specs.Prelude.{OnOk, Result, Some, option_copied, take}
use Rattle.std.specs.List.{find}
use Rattle.codes.specs.Wanted.{member}
use Rattle.font_subset.specs.CutOfFont.{IsTooLarge}
use Rattle.font_subset.specs.CutOfKind.{IsSoundIn, closed_if, keeps_links, opened_font_cut}
use Rattle.font_subset.specs.KeptGlyphs.{glyphs_wanted}
use Rattle.font_subset.specs.OpenedFont.{cutting_fault}
use Rattle.font_file.specs.declared.font_error.FontError.{FontError}
use Rattle.font_theory.specs.Content.{Wanted}
use Rattle.font_theory.specs.declared.kinds.Kind.TheVariants.{Full}
use Rattle.font_theory.specs.declared.kinds.Kind.{Kind}
use Rattle.sfnt_bytes.specs.declared.directory.TheConstants.{MAX_FILE}
use Rattle.sfnt_bytes.specs.declared.numbers.TheConstants.{NO_MEMORY, READ_FAULT, TOO_LARGE, WRITE_FAULT}
use Rattle.font_file.specs.Text.{font_error_number}
use Rattle.font_file.specs.Font.{font_fault}
use Rattle.font_tables.specs.Fields.{glyph_count_of}
use Rattle.font_write.specs.declared.cut_error.CutIntoError.{CutIntoError}
use Rattle.font_write.specs.declared.cut_error.CutIntoError.TheVariants as cut_errors
use Rattle.font_subset.specs.declared.open_error.OpenError.{OpenError}
use Rattle.font_subset.specs.declared.open_error.OpenError.TheVariants as open_errors
use Rattle.font_join.specs.JoinText.{join_all_error_number}
use Rattle.font_join.specs.declared.join_error.JoinAllIntoError.{JoinAllIntoError}
use Rattle.font_join.specs.declared.join_error.JoinAllIntoError.TheVariants as join_into_errors
use Rattle.font_join.specs.declared.join_error.JoinAllError.{JoinAllError}
use Rattle.font_join.specs.declared.join_error.JoinAllError.TheVariants.{At}
use Rattle.font_join.specs.declared.join_error.JoinError.TheVariants as join_errors
use Rattle.streams.specs.declared.inlet.Inlet.{Inlet}
use Rattle.streams.specs.declared.inlet.ReadError.{ReadError}
use Rattle.streams.specs.declared.inlet.ReadError.TheVariants.{NoMemory, ReadFault}
use Rattle.streams.specs.declared.outlet.Outlet.{Outlet}
use Rattle.commands.specs.Dropped.{DropsOthers}
use Rattle.commands.specs.declared.cut_request.CutRequest.{CutRequest}
use Rattle.commands.specs.declared.run_error.RunError.{RunError}
use Rattle.commands.specs.declared.run_error.RunError.TheVariants.{Font, Join, Memory, NoGlyph, OneOf, Read, TooLarge}
use Rattle.commands.specs.declared.run_error.RunError.TheVariants.{Write}
use Rattle.commands.specs.declared.run_error.TheConstants.{NO_GLYPH}
use Rattle.streams.specs.Inlet as inlets
use Rattle.streams.specs.Outlet as outlets

-- P holds of what came from the inlet's reader, where the reader's bytes are known
abbrev pub got : {R : Type 0} → (R → Option (List ℕ)) → Inlet R → (List ℕ → Type 0) → Type 0
got remaining inlet P = IfSome (remaining (inlets.reader_of inlet)) (λ bytes. P (take (MAX_FILE + 1) bytes))

-- how a run that is not done leaves its inlet, from i to j, and its outlet, from o to p; `serves` says of
-- which files it sends something, `text` what it sends of them, and `refuses` when it refuses a file
abbrev pub RunStops : {R W : Type 0} (remaining : R → Option (List ℕ)) (contents : W → Option (List ℕ))
    (serves : List ℕ → Type 0) (text : List ℕ → List ℕ) (refuses : RunError → Type 0) (i j : Inlet R)
    (o p : Outlet W) → RunError → Type 0
-- the inlet is broken after this number of bytes, and nothing was sent
RunStops remaining contents serves text refuses i j o p (Read count) =
    (inlets.inlet_broken_of j ≡ true) × inlets.Gives remaining i j count × (p ≡ o)
-- nothing was sent
RunStops remaining contents serves text refuses i j o p Memory = (inlets.inlet_broken_of j ≡ false) × (p ≡ o)
-- the file is refused, and nothing was sent
RunStops remaining contents serves text refuses i j o p (Font error) =
    (inlets.inlet_broken_of j ≡ false) × (p ≡ o) × refuses (Font error)
RunStops remaining contents serves text refuses i j o p (OneOf which error) =
    (inlets.inlet_broken_of j ≡ false) × (p ≡ o) × refuses (OneOf which error)
RunStops remaining contents serves text refuses i j o p (NoGlyph number) =
    (inlets.inlet_broken_of j ≡ false) × (p ≡ o) × refuses (NoGlyph number)
RunStops remaining contents serves text refuses i j o p (TooLarge size) =
    (inlets.inlet_broken_of j ≡ false) × (p ≡ o) × refuses (TooLarge size)
RunStops remaining contents serves text refuses i j o p (Join error) =
    (inlets.inlet_broken_of j ≡ false) × (p ≡ o) × refuses (Join error)
-- the file is one that is served, the outlet is broken, and this number of bytes of the text went out
RunStops remaining contents serves text refuses i j o p (Write count) =
    (inlets.inlet_broken_of j ≡ false) × (outlets.broken_of p ≡ true) × (outlets.written_of p ≡ count)
    × got remaining i (λ file. serves file × outlets.WentOut contents o p (take count (text file)))

-- how a run that reads a file and sends a text of it leaves its inlet, from i to j, and its outlet, from o to
-- p; `serves`, `text` and `refuses` are those of `RunStops`
pub record SendsText {R W T : Type 0} (remaining : R → Option (List ℕ)) (contents : W → Option (List ℕ))
    (serves : List ℕ → Type 0) (text : List ℕ → List ℕ) (refuses : RunError → Type 0) (i j : Inlet R)
    (o p : Outlet W) (result : Result T RunError) : Type 0 where
  pub spent : inlets.inlet_fresh_of j ≡ false
  pub sent : OnOk result (got remaining i (λ file. serves file × outlets.WentOut contents o p (text file)))
  pub unbroken : OnOk result ((inlets.inlet_broken_of j ≡ false) × (outlets.broken_of p ≡ false))
  pub error : IfErr result (RunStops remaining contents serves text refuses i j o p)

-- every file is served
abbrev pub AnyFile : List ℕ → Type 0
AnyFile file = Unit {0}

-- a file is accepted
abbrev pub IsAcceptedFont : List ℕ → Type 0
IsAcceptedFont file = font_fault file ≡ None

-- what is asked of a font: cuts of a kind, closed under links or not, for codes and for glyphs by number, or all glyphs
pub record Request : Type 0 where
  pub kind : Kind
  pub closes : Bool
  pub codes : ℕ → Bool
  pub numbers : Option (List ℕ)

-- the codes of a set alone, where layout and variable cuts have all that links of GSUB lead to
abbrev pub codes_request : Kind → (ℕ → Bool) → Request
codes_request kind codes = record { kind = kind; closes = keeps_links kind; codes = codes; numbers = Some [] }

-- what a run is asked for
abbrev pub requested : {A : Type 0} → CutRequest A → Request
requested request = record {
  kind = request.kind;
  closes = request.closes;
  codes = member request.codes.now;
  numbers = option_copied request.glyphs;
}

-- the cut of a file that is asked for
abbrev pub requested_cut : Request → List ℕ → List ℕ
requested_cut r file =
    opened_font_cut (r.kind, (file, r.closes)) (record { codes = r.codes; glyphs = glyphs_wanted r.numbers })

-- why a file is refused for the cuts that are asked for
abbrev pub requested_fault : Request → List ℕ → Option FontError
requested_fault r file = cutting_fault r.closes r.kind file

-- what is wanted of a file, with all that links lead to where that is asked for
abbrev pub requested_wanted : Request → List ℕ → Wanted
requested_wanted r file =
    closed_if r.closes r.kind file (record { codes = r.codes; glyphs = glyphs_wanted r.numbers })

-- what the cut that is asked for has of its file, and what it has not
pub record HoldsOfFont (r : Request) (file : List ℕ) : Type 0 where
  pub sound : IsSoundIn r.kind file (requested_wanted r file) (requested_cut r file)
  pub dropped : DropsOthers r.kind file (requested_wanted r file) (requested_cut r file)

-- the first of the numbers that is no glyph of a file
abbrev pub stray_number : List ℕ → Option (List ℕ) → Option ℕ
stray_number file None = None
stray_number file (Some numbers) = find (λ g. nat_le (glyph_count_of file) g) numbers

-- a file is accepted for the cuts that are asked for, its cut is not too large, and all numbers are glyphs
abbrev pub HasCutIn : Request → List ℕ → Type 0
HasCutIn r file =
    (requested_fault r file ≡ None) × (length (requested_cut r file) ≤ MAX_FILE) × (stray_number file r.numbers ≡ None)

-- a file is accepted, and its cut for the wanted codes is not too large
abbrev pub HasCut : (ℕ → Bool) → List ℕ → Type 0
HasCut codes = HasCutIn (codes_request Full codes)

-- no file is refused
abbrev pub RefusesNone : RunError → Type 0
RefusesNone error = ⊥

-- a file is refused as a font, by the first refusal that applies
abbrev pub RefusesFont : {R : Type 0} → (R → Option (List ℕ)) → Inlet R → RunError → Type 0
RefusesFont remaining inlet (Font error) = got remaining inlet (λ file. font_fault file ≡ Some error)
RefusesFont remaining inlet (OneOf which error) = ⊥
RefusesFont remaining inlet (NoGlyph number) = ⊥
RefusesFont remaining inlet (TooLarge size) = ⊥
RefusesFont remaining inlet (Join error) = ⊥
RefusesFont remaining inlet (Read count) = ⊥
RefusesFont remaining inlet Memory = ⊥
RefusesFont remaining inlet (Write count) = ⊥

-- a file is refused for the cuts that are asked for; or, where it is accepted as a font, a number is no glyph of it;
-- or its cut has this size, more than a file may have
abbrev pub RefusesCutIn : {R : Type 0} → Request → (R → Option (List ℕ)) → Inlet R → RunError → Type 0
RefusesCutIn r remaining inlet (Font error) =
    got remaining inlet (λ file. (requested_fault r file ≡ Some error)
    × (font_fault file ≡ None → stray_number file r.numbers ≡ None))
RefusesCutIn r remaining inlet (NoGlyph number) =
    got remaining inlet (λ file. (font_fault file ≡ None) × (stray_number file r.numbers ≡ Some number))
RefusesCutIn r remaining inlet (TooLarge size) =
    got remaining inlet (λ file. (requested_fault r file ≡ None) × (stray_number file r.numbers ≡ None)
    × IsTooLarge (requested_cut r file) size)
RefusesCutIn r remaining inlet (OneOf which error) = ⊥
RefusesCutIn r remaining inlet (Join error) = ⊥
RefusesCutIn r remaining inlet (Read count) = ⊥
RefusesCutIn r remaining inlet Memory = ⊥
RefusesCutIn r remaining inlet (Write count) = ⊥

-- why the cut of a file that is asked for is not sent, and how the outlet is left, from o to p
abbrev pub CutStops : {W : Type 0} (contents : W → Option (List ℕ)) (r : Request) (file : List ℕ) (o p : Outlet W) →
    RunError → Type 0
-- nothing was sent
CutStops contents r file o p Memory = p ≡ o
-- the file is refused, a number is no glyph of it, or its cut is too large, and nothing was sent
CutStops contents r file o p (Font error) =
    (p ≡ o) × (requested_fault r file ≡ Some error) × (font_fault file ≡ None → stray_number file r.numbers ≡ None)
CutStops contents r file o p (NoGlyph number) =
    (p ≡ o) × (font_fault file ≡ None) × (stray_number file r.numbers ≡ Some number)
CutStops contents r file o p (TooLarge size) =
    (p ≡ o) × (requested_fault r file ≡ None) × (stray_number file r.numbers ≡ None)
    × IsTooLarge (requested_cut r file) size
-- there is a cut, the outlet is broken, and this number of bytes went out
CutStops contents r file o p (Write count) =
    (outlets.broken_of p ≡ true) × (outlets.written_of p ≡ count) × HasCutIn r file
    × outlets.WentOut contents o p (take count (requested_cut r file))
-- nothing else stops it
CutStops contents r file o p (Read count) = ⊥
CutStops contents r file o p (OneOf which error) = ⊥
CutStops contents r file o p (Join error) = ⊥

-- how a call that sends the cut of a file leaves its outlet, from o to p
pub record SendsCut {W : Type 0} (contents : W → Option (List ℕ)) (held : W → List ℕ) (r : Request) (file : List ℕ)
    (o p : Outlet W) (result : Result ℕ RunError) : Type 0 where
  pub has : OnOk result (HasCutIn r file)
  pub sent : OnOk result (outlets.WentOut contents o p (requested_cut r file))
  pub unbroken : OnOk result (outlets.broken_of p ≡ false)
  pub flushed : OnOk result (outlets.IsFlushed held p)
  pub holds : OnOk result (HoldsOfFont r file)
  pub size : IfOk result (λ size. size ≡ length (requested_cut r file))
  pub error : IfErr result (CutStops contents r file o p)

-- a file is refused as a font, or its cut is too large
abbrev pub RefusesCut : {R : Type 0} → (R → Option (List ℕ)) → Inlet R → (ℕ → Bool) → RunError → Type 0
RefusesCut remaining inlet codes = RefusesCutIn (codes_request Full codes) remaining inlet

-- the error of a run whose inlet was not read to its end
abbrev pub run_error_of_read : ReadError → RunError
run_error_of_read (ReadFault count) = Read count
run_error_of_read NoMemory = Memory

-- the error of a run whose font is not opened for cuts of a kind
abbrev pub run_error_of_open : OpenError → RunError
run_error_of_open open_errors.NoMemory = Memory
run_error_of_open (open_errors.Refused error) = Font error

-- the error of a run whose cut was not sent
abbrev pub run_error_of_cut : CutIntoError → RunError
run_error_of_cut cut_errors.NoMemory = Memory
run_error_of_cut (cut_errors.TooLarge size) = TooLarge size
run_error_of_cut (cut_errors.WriteFault count) = Write count

-- the error of a run whose files were not joined: out of memory is one and the same error at each step
abbrev pub run_error_of_join : JoinAllError → RunError
run_error_of_join (At step join_errors.NoMemory) = Memory
run_error_of_join error = Join error

-- the error of a run whose join was not sent
abbrev pub run_error_of_sent_join : JoinAllIntoError → RunError
run_error_of_sent_join (join_into_errors.NotJoined error) = run_error_of_join error
run_error_of_sent_join (join_into_errors.WriteFault count) = Write count

-- the number of a run's error
abbrev pub run_error_number : RunError → ℕ
run_error_number (Read count) = READ_FAULT
run_error_number Memory = NO_MEMORY
run_error_number (Write count) = WRITE_FAULT
run_error_number (Font error) = font_error_number error
run_error_number (OneOf which error) = font_error_number error
run_error_number (NoGlyph number) = NO_GLYPH
run_error_number (TooLarge size) = TOO_LARGE
run_error_number (Join error) = join_all_error_number error
