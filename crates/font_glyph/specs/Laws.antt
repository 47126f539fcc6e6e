-- Laws of closures, this project's own, each of them the contract of a function.
use Rattle.std.specs.Prelude.{◌≡◌, ℕ, ◌<◌, ◌≤◌, ◌↔◌, Bool, true, List, ◌++◌, length, Some}
use Rattle.font_glyph.specs.Linked.{IsLinkClosed, Linked, is_linked}
use Rattle.font_glyph.specs.Record.{ComponentList, components_of}
use Rattle.font_glyph.specs.Reach.{IsClosed, IsComponentOf, Reach, reached}
use Rattle.font_glyph.specs.RecordMap.{AreAmong, AreEqualWhereBoth, HoldsComponents, Records, record_in, union_of}
use Rattle.font_glyph.specs.declared.component.Component.{Component}

-- a record has at most one list
abbrev pub OneComponentList : Type 0
OneComponentList =
    (b : List ℕ) (first second : List Component) → ComponentList b first → ComponentList b second →
    first ≡ second

-- a record has exactly the list that is computed of it
abbrev pub ComponentsAreComputed : Type 0
ComponentsAreComputed =
    (b : List ℕ) (list : List Component) → components_of b ≡ Some list ↔ ComponentList b list

-- bytes after a record of at least ten bytes leave its list
abbrev pub BytesBehindRecord : Type 0
BytesBehindRecord =
    (b behind : List ℕ) (list : List Component) → 10 ≤ length b → ComponentList b list →
    ComponentList (b ++ behind) list

-- where the seeds and all components stay below a count, rounds over the numbers below it find what is
-- reached
abbrev pub ReachedIsReach : Type 0
ReachedIsReach =
    (records : ℕ → List ℕ) (seeds : ℕ → Bool) (count : ℕ) → ((g : ℕ) → seeds g ≡ true → g < count)
    → ((s g : ℕ) → s < count → IsComponentOf (records s) g → g < count) → (g : ℕ) →
    reached records seeds count g ≡ true ↔ Reach records seeds g

-- what is reached is closed, and lies in each set that is
abbrev pub ReachIsLeast : Type 0
ReachIsLeast = (records : ℕ → List ℕ) (seeds : ℕ → Bool) → IsClosed records seeds (Reach records seeds)
    × ((has : ℕ → Bool) → IsClosed records seeds (λ g. has g ≡ true) → (g : ℕ) → Reach records seeds g →
    has g ≡ true)

-- from seeds among the numbers of either map, the union reaches what that one reaches
abbrev pub ReachOfUnion : Type 0
ReachOfUnion =
    (first second : Records) → HoldsComponents first → HoldsComponents second → AreEqualWhereBoth first second
    → HoldsComponents (union_of first second)
    × ((seeds : ℕ → Bool) → AreAmong seeds first → (g : ℕ) →
    Reach (record_in (union_of first second)) seeds g ↔ Reach (record_in first) seeds g)
    × ((seeds : ℕ → Bool) → AreAmong seeds second → (g : ℕ) →
    Reach (record_in (union_of first second)) seeds g ↔ Reach (record_in second) seeds g)

-- rounds over the numbers below a limit find what links lead to
abbrev pub LinkedIsComputed : Type 0
LinkedIsComputed =
    (links : ℕ → List ℕ) (seeds : ℕ → Bool) (limit g : ℕ) →
    is_linked links seeds limit g ≡ true ↔ Linked links seeds limit g

-- what links lead to is closed, and lies in each set that is
abbrev pub LinkedIsLeast : Type 0
LinkedIsLeast =
    (links : ℕ → List ℕ) (seeds : ℕ → Bool) (limit : ℕ) →
    IsLinkClosed links seeds limit (Linked links seeds limit)
    × ((has : ℕ → Bool) → IsLinkClosed links seeds limit (λ g. has g ≡ true) → (g : ℕ) →
    Linked links seeds limit g → has g ≡ true)
