-- What the run of a join is given, and how it leaves its inlets and its outlet, this project's own, over the
-- format of the cuts that are joined.
use Rattle.std.specs.Prelude.{◌≡◌, ℕ, suc, ◌+◌, false, true, All, List, drop, length, Option, Some, take}
use Rattle.std.specs.List.{AllWithin, slice_get}
use Rattle.font_theory.specs.Content.{Wanted}
use Rattle.font_theory.specs.Cut.{Format, cut}
use Rattle.font_theory.specs.Tree.{file_at, union_below}
use Rattle.font_join.specs.JoinList.{AllRefusalIsRight, AreCuts, IsAllJoined, IsAllRefusal, IsLeastOf}
use Rattle.font_join.specs.Join.{IsForSize}
use Rattle.streams.specs.Outlet as outlets
use Rattle.font_join.specs.declared.join_error.JoinAllError.TheVariants.{At, NothingToJoin}
use Rattle.streams.specs.declared.outlet.Outlet.{Outlet}
use Rattle.streams.specs.Inlet as inlets
use Rattle.commands.specs.Run.{got, run_error_of_join}
use Rattle.streams.specs.declared.inlet.Inlet.{Inlet}
use Rattle.commands.specs.declared.run_error.RunError.{RunError}
use Rattle.commands.specs.declared.run_error.RunError.TheVariants.{Font, Join, Memory, NoGlyph, OneOf, Read, TooLarge}
use Rattle.commands.specs.declared.run_error.RunError.TheVariants.{Write}

-- no inlet was read
abbrev pub AreFresh : {R : Type 0} → List (Inlet R) → Type 0
AreFresh list = All (λ inlet. inlets.inlet_fresh_of inlet ≡ true) list

-- an inlet was read, and no read failed
abbrev pub IsSpent : {R : Type 0} → Inlet R → Type 0
IsSpent inlet = (inlets.inlet_fresh_of inlet ≡ false) × (inlets.inlet_broken_of inlet ≡ false)

-- each inlet was read, and no read failed
abbrev pub AreSpent : {R : Type 0} → List (Inlet R) → Type 0
AreSpent list = All IsSpent list

-- the inlets before some place were read, none of their reads failed, and the others are as they were
pub record AreReadTo {R : Type 0} (old new : List (Inlet R)) : Type 0 where
  pub at : ℕ
  pub before : AllWithin IsSpent new 0 at
  pub behind : drop at new ≡ drop at old

-- the files are what came from the readers of the inlets, one by one, where these tell their bytes
pub record AreGot {R : Type 0} (remaining : R → Option (List ℕ)) (list : List (Inlet R))
    (files : List (List ℕ)) : Type 0 where
  pub count : length files ≡ length list
  pub each :
      (k : ℕ) (inlet : Inlet R) → slice_get list k ≡ Some inlet →
      got remaining inlet (λ bytes. file_at files k ≡ bytes)

-- a read failed: the inlets before it were read, it is broken after this number of bytes, and those after it
-- are as they were
pub record BreaksAfter {R : Type 0} (remaining : R → Option (List ℕ)) (old new : List (Inlet R)) (count : ℕ)
    : Type 0 where
  pub at : ℕ
  pub unread : Inlet R
  pub failed : Inlet R
  pub was : slice_get old at ≡ Some unread
  pub is : slice_get new at ≡ Some failed
  pub broken : inlets.inlet_broken_of failed ≡ true
  pub gives : inlets.Gives remaining unread failed count
  pub before : AllWithin IsSpent new 0 at
  pub behind : drop (at + 1) new ≡ drop (at + 1) old

-- how inlets are left that were not all read: a read failed, or memory ran out
abbrev pub ReadStops : {R : Type 0} (remaining : R → Option (List ℕ)) (old new : List (Inlet R)) → RunError →
    Type 0
ReadStops remaining old new (Read count) = BreaksAfter remaining old new count
ReadStops remaining old new Memory = AreReadTo old new
ReadStops remaining old new _ = ⊥

-- P holds of files that came from the readers
abbrev pub OfGot : {R : Type 0} → (R → Option (List ℕ)) → List (Inlet R) → (List (List ℕ) → Type 0) → Type 0
OfGot remaining list P = (files : List (List ℕ)) × AreGot remaining list files × P files

-- how a join that is not done leaves its inlets, from i to j, and its outlet, from o to p
abbrev pub JoinStops : {R W : Type 0} (format : Format) (remaining : R → Option (List ℕ))
    (contents : W → Option (List ℕ)) (i j : List (Inlet R)) (o p : Outlet W) → RunError → Type 0
-- nothing was sent
JoinStops format remaining contents i j o p (Read count) = BreaksAfter remaining i j count × (p ≡ o)
JoinStops format remaining contents i j o p Memory = AreReadTo i j × (p ≡ o)
-- the files are refused, by the first refusal that applies, and nothing was sent
JoinStops format remaining contents i j o p (Join error) =
    AreSpent j × (p ≡ o) × (run_error_of_join error ≡ Join error)
    × OfGot remaining i (λ files. IsAllRefusal format files error)
-- the outlet is broken, and this number of bytes of the join went out
JoinStops format remaining contents i j o p (Write count) =
    AreSpent j × (outlets.broken_of p ≡ true) × (outlets.written_of p ≡ count)
    × OfGot remaining i
    (λ files. (z : List ℕ) × IsAllJoined format files z × outlets.WentOut contents o p (take count z))
-- such a refusal is one of the join
JoinStops format remaining contents i j o p (Font error) = ⊥
JoinStops format remaining contents i j o p (OneOf which error) = ⊥
JoinStops format remaining contents i j o p (NoGlyph number) = ⊥
JoinStops format remaining contents i j o p (TooLarge size) = ⊥

-- the join of what came from the readers went out, and has this number of bytes
abbrev pub SendsJoin : {R W : Type 0} (format : Format) (remaining : R → Option (List ℕ))
    (contents : W → Option (List ℕ)) (i : List (Inlet R)) (o p : Outlet W) → ℕ → Type 0
SendsJoin format remaining contents i o p size =
    OfGot remaining i (λ files. (z : List ℕ) × IsAllJoined format files z × (size ≡ length z)
    × outlets.WentOut contents o p z)

-- the least file of which all that came from the readers are cuts went out, and has this number of bytes
abbrev pub SendsLeast : {R W : Type 0} (format : Format) (remaining : R → Option (List ℕ))
    (contents : W → Option (List ℕ)) (i : List (Inlet R)) (o p : Outlet W) → ℕ → Type 0
SendsLeast format remaining contents i o p size =
    OfGot remaining i (λ files. (z : List ℕ) × IsLeastOf format files z × (size ≡ length z)
    × outlets.WentOut contents o p z)

-- what came from the readers is refused, and that says what it should
abbrev pub IsRightlyRefused : {R : Type 0} → Format → (R → Option (List ℕ)) → List (Inlet R) → RunError → Type 0
IsRightlyRefused format remaining list (Join error) =
    OfGot remaining list (λ files. AllRefusalIsRight format files error)
IsRightlyRefused format remaining list _ = Unit {0}

-- what came from the readers, whatever it is, are cuts of F for some sets, none of them too large
abbrev pub GotCuts : {R : Type 0} → Format → (R → Option (List ℕ)) → List (Inlet R) → List ℕ →
    (ℕ → Wanted) → Type 0
GotCuts format remaining list F A =
    (files : List (List ℕ)) → AreGot remaining list files → AreCuts format F A files

-- no refusal but that the cut for the first sets is too large
abbrev pub OnlySize : Format → List ℕ → (ℕ → Wanted) → ℕ → RunError → Type 0
OnlySize format F A count (Join NothingToJoin) = count ≡ 0
OnlySize format F A count (Join (At step error)) =
    IsForSize (length (cut format F (union_below A (suc step)))) error
OnlySize format F A count _ = Unit {0}
