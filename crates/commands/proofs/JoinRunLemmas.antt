-- How a join that is refused leaves things, and what refuses that of cuts of one font.
use Rattle.std.proofs.Common.{true, ◌≡◌, ◌∙◌, ℕ, List, [], Option, ap, length, refl, subst, sym}
use Rattle.font_theory.specs.Content.{Wanted}
use Rattle.font_theory.specs.Cut.{Format}
use Rattle.font_join.specs.JoinList.{AllRefusalIsRight, IsAllJoined, IsAllRefusal, IsForSizeInto, IsForSizeOf}
use Rattle.font_join.specs.JoinList.{StopsJoin}
use Rattle.streams.specs.Outlet as outlets
use Rattle.font_join.specs.declared.join_error.JoinAllIntoError.{JoinAllIntoError}
use Rattle.font_join.specs.declared.join_error.JoinAllIntoError.TheVariants.{NotJoined, WriteFault}
use Rattle.font_join.specs.declared.join_error.JoinAllError.{JoinAllError}
use Rattle.font_join.specs.declared.join_error.JoinAllError.TheVariants.{At, NothingToJoin}
use Rattle.font_join.specs.declared.join_error.JoinError.TheVariants.{DifferentGlyph, DifferentMapping, DifferentTable}
use Rattle.font_join.specs.declared.join_error.JoinError.TheVariants.{Font, NoMemory, NotACut, TableTooLong, TooLarge}
use Rattle.streams.specs.declared.outlet.Outlet.{Outlet}
use Rattle.commands.specs.JoinRun.{AreGot, AreSpent, IsRightlyRefused, JoinStops, OnlySize, ReadStops}
use Rattle.commands.specs.Run.{run_error_of_join, run_error_of_sent_join}
use Rattle.streams.specs.declared.inlet.Inlet.{Inlet}
use Rattle.commands.specs.declared.run_error.RunError.{RunError}
use Rattle.commands.specs.declared.run_error.RunError.TheVariants as runs
use Rattle.commands.proofs.ReadEachLemmas.{all_read_to}
use Rattle.commands.proofs.RunLemmas.{sends_all}

pub only_size_of : (format : Format) (F : List ℕ) (A : ℕ → Wanted) (files : List (List ℕ)) (count : ℕ)
    → length files ≡ count → (error : JoinAllError) → IsForSizeOf format F A files error
    → OnlySize format F A count (run_error_of_join error)
only_size_of format F A files count long NothingToJoin none = sym long ∙ ap length none
only_size_of format F A files count long (At step NoMemory) is = tt
only_size_of format F A files count long (At step (TooLarge size)) is = is
only_size_of format F A files count long (At step (Font which error)) is = absurd is
only_size_of format F A files count long (At step (NotACut which)) is = absurd is
only_size_of format F A files count long (At step (DifferentTable tag)) is = absurd is
only_size_of format F A files count long (At step (DifferentMapping code)) is = absurd is
only_size_of format F A files count long (At step (DifferentGlyph g)) is = absurd is
only_size_of format F A files count long (At step (TableTooLong tag)) is = absurd is

pub join_stopped : {R W : Type 0} (format : Format) (remaining : R → Option (List ℕ)) (contents : W → Option (List ℕ))
    (old new : List (Inlet R)) (o : Outlet W) (files : List (List ℕ)) → length new ≡ length old → AreSpent new
    → AreGot remaining old files
    → (error : JoinAllError) → IsAllRefusal format files error
    → JoinStops format remaining contents old new o o (run_error_of_join error)
join_stopped format remaining contents old new o files same spent got NothingToJoin r =
    (spent, refl, refl, (files, got, r))
join_stopped format remaining contents old new o files same spent got (At step NoMemory) r =
    (all_read_to old new same spent, refl)
join_stopped format remaining contents old new o files same spent got (At step (TooLarge size)) r =
    (spent, refl, refl, (files, got, r))
join_stopped format remaining contents old new o files same spent got (At step (Font which error)) r =
    (spent, refl, refl, (files, got, r))
join_stopped format remaining contents old new o files same spent got (At step (NotACut which)) r =
    (spent, refl, refl, (files, got, r))
join_stopped format remaining contents old new o files same spent got (At step (DifferentTable tag)) r =
    (spent, refl, refl, (files, got, r))
join_stopped format remaining contents old new o files same spent got (At step (DifferentMapping code)) r =
    (spent, refl, refl, (files, got, r))
join_stopped format remaining contents old new o files same spent got (At step (DifferentGlyph g)) r =
    (spent, refl, refl, (files, got, r))
join_stopped format remaining contents old new o files same spent got (At step (TableTooLong tag)) r =
    (spent, refl, refl, (files, got, r))

pub only_size_into : (format : Format) (F : List ℕ) (A : ℕ → Wanted) (files : List (List ℕ)) (count : ℕ)
    → length files ≡ count → (error : JoinAllIntoError) → IsForSizeInto format F A files error
    → OnlySize format F A count (run_error_of_sent_join error)
only_size_into format F A files count long (NotJoined error) is = only_size_of format F A files count long error is
only_size_into format F A files count long (WriteFault written) is = tt

-- files that were not all read: nothing was sent
pub read_stopped : {R W : Type 0} (format : Format) (remaining : R → Option (List ℕ)) (contents : W → Option (List ℕ))
    (old new : List (Inlet R)) (o : Outlet W) → (error : RunError) → ReadStops remaining old new error
    → JoinStops format remaining contents old new o o error
read_stopped format remaining contents old new o (runs.Read count) stops = (stops, refl)
read_stopped format remaining contents old new o runs.Memory stops = (stops, refl)
read_stopped format remaining contents old new o (runs.Write count) stops = absurd stops
read_stopped format remaining contents old new o (runs.Font error) stops = absurd stops
read_stopped format remaining contents old new o (runs.OneOf which error) stops = absurd stops
read_stopped format remaining contents old new o (runs.NoGlyph number) stops = absurd stops
read_stopped format remaining contents old new o (runs.TooLarge size) stops = absurd stops
read_stopped format remaining contents old new o (runs.Join error) stops = absurd stops

-- files that were not joined, or whose join did not all go out
pub into_stopped : {R W : Type 0} (format : Format) (remaining : R → Option (List ℕ)) (contents : W → Option (List ℕ))
    (old new : List (Inlet R)) (o p : Outlet W) (files : List (List ℕ)) → length new ≡ length old → AreSpent new
    → AreGot remaining old files
    → (error : JoinAllIntoError) → StopsJoin format contents o p files error
    → JoinStops format remaining contents old new o p (run_error_of_sent_join error)
into_stopped format remaining contents old new o p files same spent got (NotJoined error) stops =
    subst (λ q. JoinStops format remaining contents old new o q (run_error_of_join error)) (sym stops.0)
    (join_stopped format remaining contents old new o files same spent got error stops.1)
into_stopped format remaining contents old new o p files same spent got (WriteFault written) stops =
    (spent, stops.2.broken, sym stops.2.count, (files, got, (stops.0, stops.1, stops.2.front)))

-- a join that all went out, and was not flushed
pub finish_stopped : {R W : Type 0} (format : Format) (remaining : R → Option (List ℕ)) (contents : W → Option (List ℕ))
    (old new : List (Inlet R)) (o m p : Outlet W) (files : List (List ℕ)) → AreSpent new → AreGot remaining old files
    → outlets.fresh_of o ≡ true
    → (z : List ℕ) → IsAllJoined format files z → outlets.WentOut contents o m z → outlets.WentOut contents m p []
    → (count : ℕ) → count ≡ outlets.written_of p → outlets.broken_of p ≡ true
    → JoinStops format remaining contents old new o p (runs.Write count)
finish_stopped format remaining contents old new o m p files spent got fresh z joined sent flushed count is broken =
    (spent, broken, sym is, (files, got, (z, joined, sends_all contents o m p z fresh sent flushed count is)))

-- a refusal of the join says what it should; no other error says anything of the files
pub rightly_refused : {R : Type 0} (format : Format) (remaining : R → Option (List ℕ)) (old : List (Inlet R))
    (files : List (List ℕ)) → AreGot remaining old files → (error : JoinAllError) → AllRefusalIsRight format files error
    → IsRightlyRefused format remaining old (run_error_of_join error)
rightly_refused format remaining old files got NothingToJoin r = (files, got, r)
rightly_refused format remaining old files got (At step NoMemory) r = tt
rightly_refused format remaining old files got (At step (TooLarge size)) r = (files, got, r)
rightly_refused format remaining old files got (At step (Font which error)) r = (files, got, r)
rightly_refused format remaining old files got (At step (NotACut which)) r = (files, got, r)
rightly_refused format remaining old files got (At step (DifferentTable tag)) r = (files, got, r)
rightly_refused format remaining old files got (At step (DifferentMapping code)) r = (files, got, r)
rightly_refused format remaining old files got (At step (DifferentGlyph g)) r = (files, got, r)
rightly_refused format remaining old files got (At step (TableTooLong tag)) r = (files, got, r)

pub into_rightly_refused : {R : Type 0} (format : Format) (remaining : R → Option (List ℕ)) (old : List (Inlet R))
    (files : List (List ℕ)) → AreGot remaining old files → (error : JoinAllIntoError) → ((e : JoinAllError)
    → error ≡ NotJoined e → AllRefusalIsRight format files e)
    → IsRightlyRefused format remaining old (run_error_of_sent_join error)
into_rightly_refused format remaining old files got (NotJoined error) right =
    rightly_refused format remaining old files got error (right error refl)
into_rightly_refused format remaining old files got (WriteFault written) right = tt

pub read_refused : {R : Type 0} (format : Format) (remaining : R → Option (List ℕ)) (old new : List (Inlet R))
    (error : RunError) → ReadStops remaining old new error → IsRightlyRefused format remaining old error
read_refused format remaining old new (runs.Read count) stops = tt
read_refused format remaining old new runs.Memory stops = tt
read_refused format remaining old new (runs.Write count) stops = absurd stops
read_refused format remaining old new (runs.Font error) stops = absurd stops
read_refused format remaining old new (runs.OneOf which error) stops = absurd stops
read_refused format remaining old new (runs.NoGlyph number) stops = absurd stops
read_refused format remaining old new (runs.TooLarge size) stops = absurd stops
read_refused format remaining old new (runs.Join error) stops = absurd stops
