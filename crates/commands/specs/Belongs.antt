-- What `belongs` prints of two files, and how it leaves its inlets and its outlet, this project's own.
use Rattle.std.specs.Prelude.{◌≡◌, ℕ, ◌⊎◌, ◌↔◌, Bool, false, true, IsTrue, List, None, Option, Some, codes, take}
use Rattle.font_subset.specs.CutOfKind.{IsCutIn}
use Rattle.font_subset.specs.declared.open_error.OpenError.{OpenError}
use Rattle.font_subset.specs.declared.open_error.OpenError.TheVariants as open_errors
use Rattle.font_file.specs.declared.font_error.FontError.{FontError}
use Rattle.font_theory.specs.declared.kinds.Kind.{Kind}
use Rattle.font_theory.specs.Kinds.{fault_of}
use Rattle.streams.specs.Outlet as outlets
use Rattle.font_join.specs.declared.join_error.Which.{Which}
use Rattle.font_join.specs.declared.join_error.Which.TheVariants.{First, Second}
use Rattle.streams.specs.declared.outlet.Outlet.{Outlet}
use Rattle.commands.specs.Check.{line}
use Rattle.streams.specs.Inlet as inlets
use Rattle.commands.specs.JoinRun.{IsSpent}
use Rattle.commands.specs.Run.{got}
use Rattle.streams.specs.declared.inlet.Inlet.{Inlet}
use Rattle.commands.specs.declared.run_error.RunError.{RunError}
use Rattle.commands.specs.declared.run_error.RunError.TheVariants.{Font, Join, Memory, NoGlyph, OneOf, Read, TooLarge}
use Rattle.commands.specs.declared.run_error.RunError.TheVariants.{Write}

-- all that `belongs` prints
abbrev pub belongs_text : Bool → List ℕ
belongs_text true = line (codes "yes")
belongs_text false = line (codes "no")

-- both files are accepted for cuts of a kind, and the answer says whether the first one is a cut of the second
-- one for some codes, of the kind and in some form
pub record Answers (kind : Kind) (cut font : List ℕ) (answer : Bool) : Type 0 where
  pub cut_accepted : fault_of kind cut ≡ None
  pub font_accepted : fault_of kind font ≡ None
  pub is : IsTrue answer ↔ IsCutIn kind font cut

-- the first file is refused for cuts of a kind, or it is accepted and the second one is refused, by the first
-- refusal that applies
abbrev pub RefusesOneOf : Kind → List ℕ → List ℕ → Which → FontError → Type 0
RefusesOneOf kind cut font First error = fault_of kind cut ≡ Some error
RefusesOneOf kind cut font Second error = (fault_of kind cut ≡ None) × (fault_of kind font ≡ Some error)

-- the error of a run one of whose fonts is not opened for cuts of a kind
abbrev pub of_unopened : Which → OpenError → RunError
of_unopened which open_errors.NoMemory = Memory
of_unopened which (open_errors.Refused error) = OneOf which error

-- why one of two files is not opened for cuts of a kind: out of memory, or the file is refused
abbrev pub IsUnopened : Kind → Which → List ℕ → RunError → Type 0
IsUnopened kind which file error =
    (error ≡ Memory)
    ⊎ ((fault : FontError) × (fault_of kind file ≡ Some fault) × (error ≡ OneOf which fault))

-- why there is no answer of two files: out of memory, or one of them is refused
abbrev pub IsUnanswered : Kind → List ℕ → List ℕ → RunError → Type 0
IsUnanswered kind cut font Memory = Unit {0}
IsUnanswered kind cut font (OneOf which error) = RefusesOneOf kind cut font which error
IsUnanswered kind cut font _ = ⊥

-- P holds of what came from both readers, where these tell their bytes
abbrev pub got_both : {R : Type 0} → (R → Option (List ℕ)) → Inlet R → Inlet R → (List ℕ → List ℕ → Type 0) →
    Type 0
got_both remaining cut font P = got remaining cut (λ x. got remaining font (λ y. P x y))

-- a read failed after this number of bytes
abbrev pub BrokeAfter : {R : Type 0} → (R → Option (List ℕ)) → Inlet R → Inlet R → ℕ → Type 0
BrokeAfter remaining i j count = (inlets.inlet_broken_of j ≡ true) × inlets.Gives remaining i j count

-- how a run that is not done leaves the inlet of CUT, from c to d, that of FONT, from i to j, and its outlet,
-- from o to p; the kind is that of the cuts that are asked for
abbrev pub BelongsStops : {R W : Type 0} (kind : Kind) (remaining : R → Option (List ℕ))
    (contents : W → Option (List ℕ)) (c d i j : Inlet R) (o p : Outlet W) → RunError → Type 0
-- nothing was sent: CUT broke, and FONT was not read, or FONT did
BelongsStops kind remaining contents c d i j o p (Read count) =
    (p ≡ o) × ((BrokeAfter remaining c d count × (j ≡ i)) ⊎ (IsSpent d × BrokeAfter remaining i j count))
-- nothing was sent, and FONT was read or not
BelongsStops kind remaining contents c d i j o p Memory = (p ≡ o) × IsSpent d × ((j ≡ i) ⊎ IsSpent j)
-- one of both is refused, and nothing was sent
BelongsStops kind remaining contents c d i j o p (OneOf which error) =
    (p ≡ o) × IsSpent d × IsSpent j × got_both remaining c i (λ x y. RefusesOneOf kind x y which error)
-- the outlet is broken, and this number of bytes of the answer went out
BelongsStops kind remaining contents c d i j o p (Write count) =
    IsSpent d × IsSpent j × (outlets.broken_of p ≡ true) × (outlets.written_of p ≡ count)
    × ((answer : Bool) × got_both remaining c i (λ x y. Answers kind x y answer)
    × outlets.WentOut contents o p (take count (belongs_text answer)))
-- nothing else stops it
BelongsStops kind remaining contents c d i j o p (Font error) = ⊥
BelongsStops kind remaining contents c d i j o p (NoGlyph number) = ⊥
BelongsStops kind remaining contents c d i j o p (TooLarge size) = ⊥
BelongsStops kind remaining contents c d i j o p (Join error) = ⊥
