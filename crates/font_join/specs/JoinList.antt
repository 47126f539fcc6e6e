-- What the joins of a list of files in turn answer, this project's own, over the format of the cuts that are
-- joined.
use Rattle.std.specs.Prelude.{◌≡◌, ◌≢◌, ℕ, zero, suc, ◌<◌, ◌≤◌, ◌⊎◌, true, List, [], length, take, Option, None, Result}
use Rattle.std.specs.Prelude.{IfOk, MatchResult}
use Rattle.sfnt_bytes.specs.declared.directory.DirError.TheVariants.{FileTooLarge}
use Rattle.sfnt_bytes.specs.declared.directory.TheConstants.{MAX_FILE}
use Rattle.font_file.specs.Font.{font_fault}
use Rattle.font_file.specs.declared.font_error.FontError.TheVariants.{Directory}
use Rattle.font_theory.specs.Content.{Content, Wanted, content}
use Rattle.font_theory.specs.Cut.{Format, IsCurrent, IsCut, Under, Writes, cut, renewed}
use Rattle.font_theory.specs.Tree.{Differs, IsOver, IsSmall, JoinTree, Overflows, Value, cuts, file_at, grown}
use Rattle.font_theory.specs.Tree.{union_below}
use Rattle.font_join.specs.Join.{IsForSize, IsJoin, IsJoinRefusal, RefusalIsRight}
use Rattle.streams.specs.Outlet.{WentOut, broken_of, written_of}
use Rattle.streams.specs.declared.outlet.Outlet.{Outlet}
use Rattle.font_join.specs.declared.join_error.JoinAllIntoError.{JoinAllIntoError}
use Rattle.font_join.specs.declared.join_error.JoinAllIntoError.TheVariants.{NotJoined, WriteFault}
use Rattle.font_join.specs.declared.join_error.JoinAllError.{JoinAllError}
use Rattle.font_join.specs.declared.join_error.JoinAllError.TheVariants.{At, NothingToJoin}
use Rattle.font_join.specs.declared.join_error.JoinError.{JoinError}
use Rattle.font_join.specs.declared.join_error.JoinError.TheVariants.{DifferentGlyph, DifferentMapping, DifferentTable}
use Rattle.font_join.specs.declared.join_error.JoinError.TheVariants.{Font, NoMemory, TableTooLong, TooLarge}

-- v is what k joins in turn come to, the first of them being that of the first file with itself
abbrev pub Stands : Format → List (List ℕ) → ℕ → List ℕ → Type 0
Stands R files zero v = v ≡ file_at files 0
Stands R files (suc k) v = (w : List ℕ) × Stands R files k w × IsJoin R w (file_at files k) v

-- a step is refused
pub record IsRefusedAt (R : Format) (files : List (List ℕ)) (step : ℕ) (error : JoinError) : Type 0 where
  pub before : List ℕ
  pub stands : Stands R files step before
  pub below : step < length files
  pub refused : IsJoinRefusal R before (file_at files step) error

-- why a list of files is not joined: it is empty, or a step is refused
abbrev pub IsAllRefusal : Format → List (List ℕ) → JoinAllError → Type 0
IsAllRefusal R files NothingToJoin = files ≡ []
IsAllRefusal R files (At step error) = IsRefusedAt R files step error

-- z is what all steps come to, of which there is one at least
pub record IsAllJoined (R : Format) (files : List (List ℕ)) (z : List ℕ) : Type 0 where
  pub some : 0 < length files
  pub stands : Stands R files (length files) z

-- all files of a list are cuts of F
abbrev pub AreUnder : Format → List (List ℕ) → List ℕ → Type 0
AreUnder R files F = (k : ℕ) → k < length files → Under R (file_at files k) F

-- z is current, all files are cuts of it, and it is a cut of each file of which all are cuts
pub record IsLeastOf (R : Format) (files : List (List ℕ)) (z : List ℕ) : Type 0 where
  pub cut_form : IsCurrent R z
  pub above : AreUnder R files z
  pub least : (F : List ℕ) → AreUnder R files F → Under R z F

-- what the refusal of a step says: all files are cuts of no file, or what stands before the step agrees with its file,
-- and their join is too large
abbrev pub StepRefusalIsRight : Format → List (List ℕ) → ℕ → JoinError → Type 0
StepRefusalIsRight R files step NoMemory = Unit {0}
StepRefusalIsRight R files step (Font which error) =
    error ≢ Directory FileTooLarge → (F : List ℕ) → AreUnder R files F → ⊥
StepRefusalIsRight R files step (TooLarge size) =
    (before : List ℕ) × Stands R files step before × RefusalIsRight R before (file_at files step) (TooLarge size)
StepRefusalIsRight R files step _ = (F : List ℕ) → AreUnder R files F → ⊥

-- what the refusal of a list says
abbrev pub AllRefusalIsRight : Format → List (List ℕ) → JoinAllError → Type 0
AllRefusalIsRight R files NothingToJoin = files ≡ []
AllRefusalIsRight R files (At step error) = StepRefusalIsRight R files step error

-- a file is the first one of a list, and accepted
pub record IsFirst (files : List (List ℕ)) (x : List ℕ) : Type 0 where
  pub some : 0 < length files
  pub is : x ≡ file_at files 0
  pub accepted : font_fault x ≡ None

-- the files are cuts of F for some sets, in any forms, and none of them is too large
pub record AreCuts (R : Format) (F : List ℕ) (A : ℕ → Wanted) (files : List (List ℕ)) : Type 0 where
  pub accepted : R.fault F ≡ None
  pub cuts : (k : ℕ) → k < length files → Writes R (content (R.font F) (A k)) (file_at files k)
  pub small : (k : ℕ) → k < length files → length (file_at files k) ≤ MAX_FILE

-- out of memory, or the cut for the first sets is too large
abbrev pub IsForSizeOf : Format → List ℕ → (ℕ → Wanted) → List (List ℕ) → JoinAllError → Type 0
IsForSizeOf R F A files NothingToJoin = files ≡ []
IsForSizeOf R F A files (At step error) = IsForSize (length (cut R F (union_below A (suc step)))) error

-- refused for a difference, or for a table that has no room
abbrev pub IsForDifference : JoinAllError → Type 0
IsForDifference (At step (DifferentTable tag)) = Unit {0}
IsForDifference (At step (DifferentMapping code)) = Unit {0}
IsForDifference (At step (DifferentGlyph g)) = Unit {0}
IsForDifference (At step (TableTooLong tag)) = Unit {0}
IsForDifference _ = ⊥

-- z went out between two moments, and has this number of bytes
pub record IsSentAs {W : Type 0} (contents : W → Option (List ℕ)) (old new : Outlet W) (z : List ℕ) (size : ℕ)
    : Type 0 where
  pub size_is : size ≡ length z
  pub sends : WentOut contents old new z

-- the join of all files went out, and has this number of bytes
pub record SendsAll {W : Type 0} (R : Format) (contents : W → Option (List ℕ)) (old new : Outlet W)
    (files : List (List ℕ)) (size : ℕ) : Type 0 where
  pub file : List ℕ
  pub joined : IsAllJoined R files file
  pub sent : IsSentAs contents old new file size

-- a write failed after this number of bytes of z, of which all before went out
pub record IsCutOff {W : Type 0} (contents : W → Option (List ℕ)) (old new : Outlet W) (z : List ℕ)
    (written : ℕ) : Type 0 where
  pub broken : broken_of new ≡ true
  pub count : written ≡ written_of new
  pub front : WentOut contents old new (take written z)

-- why the join of a list of files was not sent, and what was: nothing before a write failed, and else a front
-- of it
abbrev pub StopsJoin : {W : Type 0} → Format → (W → Option (List ℕ)) → Outlet W → Outlet W → List (List ℕ) →
    JoinAllIntoError → Type 0
StopsJoin R contents old new files (NotJoined error) = (new ≡ old) × IsAllRefusal R files error
StopsJoin R contents old new files (WriteFault written) =
    (z : List ℕ) × IsAllJoined R files z × IsCutOff contents old new z written

-- out of memory, or the cut for the first sets is too large, or a write failed
abbrev pub IsForSizeInto : Format → List ℕ → (ℕ → Wanted) → List (List ℕ) → JoinAllIntoError → Type 0
IsForSizeInto R F A files (NotJoined error) = IsForSizeOf R F A files error
IsForSizeInto R F A files (WriteFault written) = Unit {0}

-- the laws of joins of many files, over what `gives` says of an answer: that it is, or that it sent, some
-- file

-- cuts of one file give its cut for all that they want
abbrev pub GivesCutOfUnion : {T E : Type 0} → Format → List (List ℕ) → Result T E → (List ℕ → T → Type 0) →
    (List ℕ → (ℕ → Wanted) → List (List ℕ) → E → Type 0) → Type 0
GivesCutOfUnion R files result gives is_for_size =
    (F : List ℕ) (A : ℕ → Wanted) → AreCuts R F A files →
    MatchResult result (gives (cut R F (union_below A (length files)))) (is_for_size F A files)

-- the value of a tree of joins is given
abbrev pub GivesValue : {T E : Type 0} → Format → Result T E → (List ℕ → T → Type 0) → JoinTree (List ℕ) →
    Type 0
GivesValue R result gives t = IfOk result (λ answer. (z : List ℕ) × gives z answer × Value R t z)

-- that of each tree over the files where these are cuts of one file, and no value in the tree is too large
abbrev pub AgreesWithTreesOfCuts : {T E : Type 0} → Format → List (List ℕ) → Result T E →
    (List ℕ → T → Type 0) → Type 0
AgreesWithTreesOfCuts R files result gives =
    (F : List ℕ) (t : JoinTree Wanted) → R.fault F ≡ None → IsOver files (cuts R F t) →
    IsSmall R (cuts R F t) → GivesValue R result gives (cuts R F t)

-- that of each tree over the files where these are current
abbrev pub AgreesWithTreesOfCurrentFiles : {T E : Type 0} → Format → List (List ℕ) → Result T E →
    (List ℕ → T → Type 0) → Type 0
AgreesWithTreesOfCurrentFiles R files result gives =
    ((k : ℕ) → k < length files → IsCurrent R (file_at files k)) → (t : JoinTree (List ℕ)) → IsOver files t →
    IsSmall R t → GivesValue R result gives t

-- each tree over the files has a value, and that written anew is given
abbrev pub AgreesWithEveryTree : {T E : Type 0} → Format → List (List ℕ) → Result T E →
    (List ℕ → T → Type 0) → Type 0
AgreesWithEveryTree R files result gives =
    (t : JoinTree (List ℕ)) → IsOver files t → IsSmall R t →
    IfOk result (λ answer. (v : List ℕ) × Value R t v × gives (renewed R v) answer)

-- the laws of an answer: it is the value of the tree that grows file by file; over cuts of one file it is the
-- cut for all that they want, or too large; and it is what each other tree over the files comes to
pub record JoinLaws {T E : Type 0} (R : Format) (files : List (List ℕ)) (result : Result T E)
    (gives : List ℕ → T → Type 0) (is_for_size : List ℕ → (ℕ → Wanted) → List (List ℕ) → E → Type 0)
    : Type 0 where
  pub value : GivesValue R result gives (grown files (length files))
  pub cuts : GivesCutOfUnion R files result gives is_for_size
  pub grouping : AgreesWithTreesOfCuts R files result gives
  pub trees : AgreesWithEveryTree R files result gives
  pub one_form : AgreesWithTreesOfCurrentFiles R files result gives

-- a refusal for a difference, or for a table that has no room: each tree over the files meets one of them, where all
-- are in cut form, and a difference, where each table of the kind always has room
abbrev pub EveryTreeDiffers : Format → List (List ℕ) → JoinAllError → Type 0
EveryTreeDiffers R files error =
    ((k : ℕ) → k < length files → IsCut R (file_at files k)) → (t : JoinTree (List ℕ)) → IsOver files t →
    IsSmall R t → IsForDifference error → (Differs R t ⊎ Overflows R t) ×
    (((K : Content) → R.misfit K ≡ None) → Differs R t)
