-- How a run over one font leaves its inlet and its outlet.
use Rattle.std.proofs.Common.{◌∙◌, rules, arith, ◌≡◌, ◌≤◌, ◌+◌, ℕ, List, [], Option, None, Some, Result, Ok}
use Rattle.std.proofs.Common.{Err}
use Rattle.std.proofs.Common.{false, true, length, refl, subst, sym, take, take_all}
use Rattle.std.specs.Option.{IfSome}
use Rattle.std.specs.Result.{IfOk, IsErrAnd}
use Rattle.std.proofs.lemmas.Option.{IfSome_then, none-some}
use Rattle.font_subset.specs.CutOfFont.{IsTooLarge, StopsCut}
use Rattle.font_write.specs.declared.cut_error.CutIntoError.{CutIntoError}
use Rattle.font_write.specs.declared.cut_error.CutIntoError.TheVariants as cut_errors
use Rattle.font_file.specs.declared.font_error.FontError.{FontError}
use Rattle.sfnt_bytes.specs.declared.directory.TheConstants.{MAX_FILE}
use Rattle.font_file.specs.Font.{font_fault}
use Rattle.font_subset.specs.OpenedFont.{IsCuttingRefusal}
use Rattle.font_subset.proofs.ClosingRefusalLemmas.{font_refused}
use Rattle.font_subset.specs.declared.open_error.OpenError.{OpenError}
use Rattle.font_subset.specs.declared.open_error.OpenError.TheVariants as open_errors
use Rattle.streams.specs.Outlet as outlets
use Rattle.streams.specs.declared.outlet.Outlet.{Outlet}
use Rattle.streams.specs.Inlet.{StopsAs, inlet_broken_of, inlet_fresh_of, reader_of}
use Rattle.commands.specs.Run.{CutStops, HasCutIn, RefusesCutIn, Request, RunStops, SendsCut, SendsText, got}
use Rattle.commands.specs.Run.{requested_cut, requested_fault, run_error_of_cut, run_error_of_open, run_error_of_read}
use Rattle.commands.specs.Run.{stray_number}
use Rattle.streams.specs.declared.inlet.Inlet.{Inlet}
use Rattle.streams.specs.declared.inlet.ReadError.{ReadError}
use Rattle.streams.specs.declared.inlet.ReadError.TheVariants.{NoMemory, ReadFault}
use Rattle.commands.specs.declared.run_error.RunError.{RunError}
use Rattle.commands.specs.declared.run_error.RunError.TheVariants.{Font, Join, Memory, NoGlyph, OneOf, Read, TooLarge}
use Rattle.commands.specs.declared.run_error.RunError.TheVariants.{Write}

-- the file is what came of the inlet's reader, where the reader's bytes are known
abbrev pub Came : {R : Type 0} → (R → Option (List ℕ)) → Inlet R → List ℕ → Type 0
Came remaining inlet file = IfSome (remaining (reader_of inlet)) (λ xs. file ≡ take (MAX_FILE + 1) xs)

-- what holds of the file holds of what came
pub got_of : {R : Type 0} (remaining : R → Option (List ℕ)) (i : Inlet R) (P : List ℕ → Type 0) (file : List ℕ)
    → Came remaining i file → P file → got remaining i P
got_of remaining i P file came holds =
    IfSome_then (remaining (reader_of i)) {P = λ (xs : List ℕ). file ≡ take (MAX_FILE + 1) xs} came
    (λ xs e. subst P e holds)

-- what went out goes on with nothing
pub sends_end : {W : Type 0} (contents : W → Option (List ℕ)) (o m p : Outlet W) (z : List ℕ)
    → outlets.WentOut contents o m z → outlets.WentOut contents m p [] → outlets.WentOut contents o p z
sends_end contents o m p z sent flushed = search rules

-- an outlet that is fresh has written nothing
fresh_none : {W : Type 0} (o : Outlet W) → outlets.fresh_of o ≡ true → outlets.written_of o ≡ 0
fresh_none o fresh = search rules

-- all went out, and was not flushed: as many bytes as were written are all of them
pub sends_all : {W : Type 0} (contents : W → Option (List ℕ)) (o m p : Outlet W) (z : List ℕ)
    → outlets.fresh_of o ≡ true → outlets.WentOut contents o m z → outlets.WentOut contents m p [] → (count : ℕ)
    → count ≡ outlets.written_of p
    → outlets.WentOut contents o p (take count z)
sends_all contents o m p z fresh sent flushed count is =
    let all = sends_end contents o m p z sent flushed in
    let none = fresh_none o fresh in
    let long : length z ≤ count = omega (arith, all.counts, none, is) in
    subst (outlets.WentOut contents o p) (sym (take_all count z long)) all

-- a file that was not read to its end: nothing was sent
pub read_stops : {R W : Type 0} (remaining : R → Option (List ℕ)) (contents : W → Option (List ℕ)) (serves : List ℕ
    → Type 0) (text : List ℕ → List ℕ) (refuses : RunError → Type 0) (i j : Inlet R) (o : Outlet W)
    → (error : ReadError)
    → StopsAs remaining i j error → RunStops remaining contents serves text refuses i j o o (run_error_of_read error)
read_stops remaining contents serves text refuses i j o (ReadFault count) stops = (stops.0, stops.1, refl)
read_stops remaining contents serves text refuses i j o NoMemory stops = (stops, refl)

module _ (r : Request) where
  abbrev made : List ℕ → List ℕ
  made file = requested_cut r file

  abbrev Has : List ℕ → Type 0
  Has = HasCutIn r

  -- why a run is not done that has read its file is why the cut of that file is not sent
  pub file_stops : {R W : Type 0} (remaining : R → Option (List ℕ)) (contents : W → Option (List ℕ)) (i j : Inlet R)
      (o p : Outlet W) (file : List ℕ) → inlet_broken_of j ≡ false → Came remaining i file
      → (error : RunError) → CutStops contents r file o p error
      → RunStops remaining contents Has made (RefusesCutIn r remaining i) i j o p error
  file_stops remaining contents i j o p file whole came Memory stops = (whole, stops)
  file_stops remaining contents i j o p file whole came (Font error) stops = (
    whole,
    stops.0,
    got_of remaining i (λ (f : List ℕ). (requested_fault r f ≡ Some error)
        × (font_fault f ≡ None → stray_number f r.numbers ≡ None)) file came (stops.1, stops.2),
  )
  file_stops remaining contents i j o p file whole came (NoGlyph number) stops = (
    whole,
    stops.0,
    got_of remaining i (λ (f : List ℕ). (font_fault f ≡ None) × (stray_number f r.numbers ≡ Some number)) file came
        (stops.1, stops.2),
  )
  file_stops remaining contents i j o p file whole came (TooLarge size) stops = (
    whole,
    stops.0,
    got_of remaining i (λ (f : List ℕ). (requested_fault r f ≡ None) × (stray_number f r.numbers ≡ None)
        × IsTooLarge (made f) size) file came (stops.1, stops.2, stops.3),
  )
  file_stops remaining contents i j o p file whole came (Write count) stops = (
    whole,
    stops.0,
    stops.1,
    got_of remaining i (λ (f : List ℕ). Has f
        × outlets.WentOut contents o p (take count (made f))) file came (stops.2, stops.3),
  )
  file_stops remaining contents i j o p file whole came (Read count) stops = absurd stops
  file_stops remaining contents i j o p file whole came (OneOf which error) stops = absurd stops
  file_stops remaining contents i j o p file whole came (Join error) stops = absurd stops

  -- the cut of a file that came, which was sent
  pub file_sent : {R W : Type 0} {held : W → List ℕ} (remaining : R → Option (List ℕ))
      (contents : W → Option (List ℕ)) (i j : Inlet R) (o p : Outlet W) (file : List ℕ) → inlet_fresh_of j ≡ false
      → inlet_broken_of j ≡ false → Came remaining i file
      → (result : Result ℕ RunError) → SendsCut contents held r file o p result
      → SendsText remaining contents Has made (RefusesCutIn r remaining i) i j o p result
  file_sent remaining contents i j o p file spent whole came (Ok size) sends =
      record {
        spent = spent;
        sent = got_of remaining i (λ (f : List ℕ). Has f × outlets.WentOut contents o p (made f)) file came (
          sends.has,
          sends.sent,
        );
        unbroken = (whole, sends.unbroken);
        error = tt;
      }
  file_sent remaining contents i j o p file spent whole came (Err error) sends =
      record {
        spent = spent;
        sent = tt;
        unbroken = tt;
        error = file_stops remaining contents i j o p file whole came error sends.error;
      }

  -- its size
  pub file_size : {R W : Type 0} {held : W → List ℕ} (remaining : R → Option (List ℕ))
      (contents : W → Option (List ℕ)) (i : Inlet R) (o p : Outlet W) (file : List ℕ) → Came remaining i file
      → (result : Result ℕ RunError) → SendsCut contents held r file o p result
      → IfOk result (λ size. (size ≤ MAX_FILE) × got remaining i (λ f. size ≡ length (made f)))
  file_size remaining contents i o p file came (Ok size) sends = (
    subst (λ (n : ℕ). n ≤ MAX_FILE) (sym sends.size) sends.has.1,
    got_of remaining i (λ (f : List ℕ). size ≡ length (made f)) file came sends.size,
  )
  file_size remaining contents i o p file came (Err error) sends = tt

  -- a call that ends with an error: what is said of the call follows from what is said of the error
  pub cut_err : {W : Type 0} {held : W → List ℕ} (contents : W → Option (List ℕ)) (file : List ℕ) (o p : Outlet W)
      (result : Result ℕ RunError) (error : RunError) → IsErrAnd result (λ e. e ≡ error)
      → CutStops contents r file o p error → SendsCut contents held r file o p result
  cut_err contents file o p (Ok size) error is stops = absurd is
  cut_err contents file o p (Err e) error is stops =
      record {
        has = tt;
        sent = tt;
        unbroken = tt;
        flushed = tt;
        holds = tt;
        size = tt;
        error = subst (CutStops contents r file o p) (sym is) stops;
      }

  -- what is refused as a font is refused, whatever is asked of it
  pub font_stops : {W : Type 0} (contents : W → Option (List ℕ)) (file : List ℕ) (o : Outlet W) (error : FontError)
      → font_fault file ≡ Some error → CutStops contents r file o o (Font error)
  font_stops contents file o error refused = (
    refl,
    font_refused r.closes r.kind file error refused,
    λ accepted. absurd (none-some error (sym accepted ∙ refused)),
  )

  -- a file that is refused for the cuts that are asked for, or for which memory is refused
  pub open_stops : {W : Type 0} (contents : W → Option (List ℕ)) (file : List ℕ) (o : Outlet W)
      (error : OpenError) → stray_number file r.numbers ≡ None → IsCuttingRefusal r.closes r.kind file error
      → CutStops contents r file o o (run_error_of_open error)
  open_stops contents file o open_errors.NoMemory known refused = refl
  open_stops contents file o (open_errors.Refused error) known refused = (refl, refused, λ _. known)

  -- a cut was not sent, or not all of it
  pub made_stops : {W : Type 0} (contents : W → Option (List ℕ)) (file : List ℕ) (o p : Outlet W)
      → requested_fault r file ≡ None → stray_number file r.numbers ≡ None → (error : CutIntoError)
      → StopsCut contents o p (made file) error → CutStops contents r file o p (run_error_of_cut error)
  made_stops contents file o p accepted known cut_errors.NoMemory stops = stops
  made_stops contents file o p accepted known (cut_errors.TooLarge size) stops = (stops.0, accepted, known, stops.1)
  made_stops contents file o p accepted known (cut_errors.WriteFault count) stops =
      (stops.1, sym stops.2, (accepted, stops.0, known), stops.3)

  -- all of it was sent, and was not flushed
  pub flush_stops : {W : Type 0} (contents : W → Option (List ℕ)) (file : List ℕ) (o m p : Outlet W) → Has file
      → outlets.fresh_of o ≡ true → outlets.WentOut contents o m (made file) → outlets.WentOut contents m p []
      → (count : ℕ) → count ≡ outlets.written_of p → outlets.broken_of p ≡ true
      → CutStops contents r file o p (Write count)
  flush_stops contents file o m p has fresh sent flushed count is broken =
      (broken, sym is, has, sends_all contents o m p (made file) fresh sent flushed count is)

-- a run that ends with an error: what is said of the run follows from what is said of the error
pub ends_err : {R W T : Type 0} (remaining : R → Option (List ℕ)) (contents : W → Option (List ℕ)) (serves : List ℕ
    → Type 0) (text : List ℕ → List ℕ) (refuses : RunError → Type 0) (i j : Inlet R) (o p : Outlet W)
    (result : Result T RunError) (error : RunError)
    → IsErrAnd result (λ e. e ≡ error) → inlet_fresh_of j ≡ false
    → RunStops remaining contents serves text refuses i j o p error
    → SendsText remaining contents serves text refuses i j o p result
ends_err remaining contents serves text refuses i j o p (Ok x) error is spent stops = absurd is
ends_err remaining contents serves text refuses i j o p (Err e) error is spent stops =
    record {
      spent = spent;
      sent = tt;
      unbroken = tt;
      error = subst (RunStops remaining contents serves text refuses i j o p) (sym is) stops;
    }
