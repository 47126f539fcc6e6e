-- The groups of a subtable, as a list and by their places.
use Rattle.std.proofs.Common.{◌≡◌, ℕ, ◌+◌, ◌<◌, ◌≤◌, Bool, true, false, cond, List, [], ◌∷◌, length, drop, find, get_or}
use Rattle.std.proofs.Common.{Option, Some, None, MatchOption, sym, ap, subst, ◌∙◌, arith, inl, inr}
use Rattle.std.proofs.lemmas.Bool.{cases_lt}
use Rattle.std.proofs.lemmas.Bool.Decides.{nat_tests}
use Rattle.std.proofs.lemmas.List.{drop_more, drop_all}
use Rattle.std.proofs.lemmas.List.FromFn.{length-map-range_with_len, get_or-map-range_with_len}
use Rattle.std.specs.Option.{option_map_or}
use Rattle.codes.specs.CharacterMap.{IsUnmapped, clipped}
use Rattle.codes.specs.Runs.{IsPiece, NoRun}
use Rattle.codes.specs.Order.{Ascends, IsFirstReaching}
use Rattle.cmap_subtables.specs.Inside.{group_end, group_nth}
use Rattle.cmap_subtables.specs.Format12.{Decides, HasOrderedGroups, glyph_along, glyph_of_group, group_count}
use Rattle.cmap_subtables.specs.Format12.{group_glyph, group_in, groups_of, holds}
use Rattle.cmap_subtables.specs.declared.format12.ListedGroup.{ListedGroup}
use Rattle.codes.specs.declared.runs.Run.{Run}
use Rattle.codes.proofs.PieceLemmas.{stretch_same}
use Rattle.codes.proofs.OrderLemmas.{find_at, find_none, in_order_above, in_order_ascends, in_order_pair}

abbrev none : ListedGroup
none = record { first = 0; last = 0; glyph = 0 }

pub length-groups_of : (s : List ℕ) → length (groups_of s) ≡ group_count s
unfolding groups_of
length-groups_of s = length-map-range_with_len (group_in s) 0 (group_count s)

pub group_is : (s : List ℕ) (i : ℕ) → i < group_count s → group_nth (groups_of s) i ≡ group_in s i
unfolding groups_of
group_is s i h = get_or-map-range_with_len (group_in s) 0 (group_count s) i i none h (omega arith)

-- what is left from a place on
pub groups_step : (s : List ℕ) (i : ℕ) → i < group_count s → drop i (groups_of s) ≡ group_nth (groups_of s) i
    ∷ drop (i + 1) (groups_of s)
groups_step s i h = drop_more (groups_of s) i none (omega (arith, h, length-groups_of s))

pub groups_end : (s : List ℕ) (i : ℕ) → group_count s ≤ i → drop i (groups_of s) ≡ []
groups_end s i h = drop_all i (groups_of s) (omega (arith, h, length-groups_of s))

-- the ends of members in order ascend
pub group_ascends : (s : List ℕ) → HasOrderedGroups s → Ascends (group_end s) (group_count s)
group_ascends s o = in_order_ascends (λ g. g.first) (λ g. g.last) none (groups_of s) (group_count s)
    (length-groups_of s) o

-- tests
pub holds_yes : (g : ListedGroup) (c : ℕ) → g.first ≤ c → c ≤ g.last → holds c g ≡ true
holds_yes g c h k = grind (arith, nat_tests)

pub holds_below : (g : ListedGroup) (c : ℕ) → c < g.first → holds c g ≡ false
holds_below g c h = grind (arith, nat_tests)

pub holds_above : (g : ListedGroup) (c : ℕ) → g.last < c → holds c g ≡ false
holds_above g c h = grind (arith, nat_tests)

-- from the place of a code on, groups in order: past them no group has a code
pub none_past : (s : List ℕ) (from c i : ℕ) → IsFirstReaching (group_end s) (group_count s) from i → group_count s ≤ i
    → from ≤ c → find (holds c) (groups_of s) ≡ None
none_past s from c i p h l =
    find_none (holds c) none (groups_of s)
    (λ k x. holds_above (get_or (groups_of s) k none) c
    (omega (arith, p.before k (omega (arith, h, x, length-groups_of s)), l)))

-- the group at the place alone decides the codes up to its end
only_below : (s : List ℕ) (from c i : ℕ) → HasOrderedGroups s → IsFirstReaching (group_end s) (group_count s) from i
    → i < group_count s → from ≤ c → c < (group_nth (groups_of s) i).first → find (holds c) (groups_of s) ≡ None
only_below s from c i o p h l below =
    let there : i < length (groups_of s) = omega (arith, h, length-groups_of s) in
    let order = (in_order_above (λ g. g.first) (λ g. g.last) none 0 (groups_of s) o i there).1 in
    find_none (holds c) none (groups_of s) (λ k x. elim (cases_lt k i) [
      | inl z ↦ holds_above (get_or (groups_of s) k none) c (omega (arith, p.before k z, l))
      | inr z ↦ elim (cases_lt i k) [
        | inl y ↦ holds_below (get_or (groups_of s) k none) c
            (omega (arith, in_order_pair (λ g. g.first) (λ g. g.last) none 0 (groups_of s) o i k y x, order, below))
        | inr y ↦ let same : i ≡ k = omega arith in
            holds_below (get_or (groups_of s) k none) c (subst (λ (j : ℕ). c < (get_or (groups_of s) j none).first) same
            below)
      ]
    ])

only_in : (s : List ℕ) (from c i : ℕ) → IsFirstReaching (group_end s) (group_count s) from i → i < group_count s
    → from ≤ c → (group_nth (groups_of s) i).first ≤ c → c ≤ (group_nth (groups_of s) i).last
    → find (holds c) (groups_of s) ≡ Some (group_nth (groups_of s) i)
only_in s from c i p h l first last =
    find_at (holds c) none (groups_of s) i (omega (arith, h, length-groups_of s)) (holds_yes (group_nth (groups_of s) i)
    c first last)
    (λ k z. holds_above (get_or (groups_of s) k none) c (omega (arith, p.before k z, l)))

pub none_below : (s : List ℕ) (c i : ℕ) (g : ListedGroup) → HasOrderedGroups s
    → IsFirstReaching (group_end s) (group_count s) c i → i < group_count s → g ≡ group_nth (groups_of s) i
    → c < g.first → None ≡ find (holds c) (groups_of s)
none_below s c i g o p h e l =
    sym (only_below s c c i o p h (omega arith) (subst (λ (x : ListedGroup). c < x.first) e l))

pub some_at : (s : List ℕ) (c i : ℕ) (g : ListedGroup) → IsFirstReaching (group_end s) (group_count s) c i
    → i < group_count s → g ≡ group_nth (groups_of s) i → g.first ≤ c → Some g ≡ find (holds c) (groups_of s)
some_at s c i g p h e l =
    ap (λ (x : ListedGroup). Some x) e
    ∙ sym (only_in s c c i p h (omega arith) (subst (λ (x : ListedGroup). x.first ≤ c) e l) (p.here h))

-- what a search finds is what the subtable gives
pub glyph_by_find : (s : List ℕ) (c : ℕ) (o : Option ListedGroup) → find (holds c) (groups_of s) ≡ o
    → group_glyph s c ≡ option_map_or (λ g. glyph_along g c) o 0
unfolding group_glyph
glyph_by_find s c o e = ap (λ (x : Option ListedGroup). option_map_or (λ g. glyph_along g c) x 0) e

-- a group that is cut off after a code gives the code the same
pub cut_same : (g : ListedGroup) (last c : ℕ) → g.first ≤ c → c ≤ last
    → glyph_of_group (record { first = g.first; last = last; glyph = g.glyph }) c ≡ glyph_along g c
cut_same g last c a b = grind (arith, nat_tests)

pub cut_none : (g : ListedGroup) (last c : ℕ) → c < g.first
    → glyph_of_group (record { first = g.first; last = last; glyph = g.glyph }) c ≡ 0
cut_none g last c a = grind (arith, nat_tests)

-- the group at the place of a code, in order
pub reach_at : (s : List ℕ) (from i last : ℕ) (g : ListedGroup) → HasOrderedGroups s
    → IsFirstReaching (group_end s) (group_count s) from i → i < group_count s → g ≡ group_nth (groups_of s) i
    → last ≤ g.last → (c : ℕ) → from ≤ c → c < last + 1
    → group_glyph s c ≡ glyph_of_group (record { first = g.first; last = last; glyph = g.glyph }) c
reach_at s from i last g o p h e l c a b =
    elim (cases_lt c g.first) [
      | inl x ↦ glyph_by_find s c None (only_below s from c i o p h a (subst (λ (y : ListedGroup). c < y.first) e x))
          ∙ sym (cut_none g last c x)
      | inr x ↦
          let is : find (holds c) (groups_of s) ≡ Some g =
          only_in s from c i p h a (subst (λ (y : ListedGroup). y.first ≤ c) e x)
          (subst (λ (y : ListedGroup). c ≤ y.last) e (omega arith)) ∙ ap (λ (y : ListedGroup). Some y) (sym e) in
          glyph_by_find s c (Some g) is ∙ sym (cut_same g last c x (omega arith))
    ]

pub reach_past : (s : List ℕ) (from i : ℕ) → IsFirstReaching (group_end s) (group_count s) from i → group_count s ≤ i
    → (c : ℕ) → from ≤ c → group_glyph s c ≡ 0
reach_past s from i p h c a = glyph_by_find s c None (none_past s from c i p h a)

-- group by group: the first listed group that has a code decides, as far as it goes and no other was passed
pub walk_hit : (s : List ℕ) (from i stop last : ℕ) (g : ListedGroup) → drop i (groups_of s) ≡ g
    ∷ drop (i + 1) (groups_of s)
    → ((c : ℕ) → from ≤ c → c < stop → find (holds c) (groups_of s) ≡ find (holds c) (drop i (groups_of s)))
    → g.first ≤ from → last ≤ g.last → last < stop → (c : ℕ) → from ≤ c → c < last + 1
    → group_glyph s c ≡ glyph_of_group (record { first = g.first; last = last; glyph = g.glyph }) c
walk_hit s from i stop last g next left first within below c a b =
    let yes : holds c g ≡ true = holds_yes g c (omega arith) (omega arith) in
    let front : find (holds c) (g ∷ drop (i + 1) (groups_of s)) ≡ Some g =
    ap (λ (t : Bool). cond t (Some g) (find (holds c) (drop (i + 1) (groups_of s)))) yes in
    let is : find (holds c) (groups_of s) ≡ Some g = left c a (omega arith)
    ∙ ap (λ (gs : List ListedGroup). find (holds c) gs) next ∙ front in
    glyph_by_find s c (Some g) is ∙ sym (cut_same g last c (omega arith) (omega arith))

pub walk_past : (s : List ℕ) (from i stop : ℕ) → drop i (groups_of s) ≡ []
    → ((c : ℕ) → from ≤ c → c < stop → find (holds c) (groups_of s) ≡ find (holds c) (drop i (groups_of s))) → (c : ℕ)
    → from ≤ c → c < stop → group_glyph s c ≡ 0
walk_past s from i stop end left c a b =
    glyph_by_find s c None (left c a b ∙ ap (λ (gs : List ListedGroup). find (holds c) gs) end)

-- past its end a group alone maps nothing
pub group_ends : (g : ListedGroup) (stop c : ℕ) → g.last < stop → stop ≤ c → glyph_of_group g c ≡ 0
group_ends g stop c a b = ap (λ (t : Bool). cond t (glyph_along g c) 0) (holds_above g c (omega arith))

-- so what one group alone maps is found for all of them
pub stretch_of_group : (s : List ℕ) (n from stop : ℕ) (found : Option ListedGroup) (g : ListedGroup) (r : Option Run)
    → found ≡ Some g → Decides s from found stop → MatchOption r (NoRun (clipped n (glyph_of_group g)) from)
    (IsPiece (clipped n (glyph_of_group g)) from) → MatchOption r (IsUnmapped (clipped n (group_glyph s)) from stop)
    (IsPiece (clipped n (group_glyph s)) from)
stretch_of_group s n from stop found g r e d p =
    let alone : Decides s from (Some g) stop = subst (λ (o : Option ListedGroup). Decides s from o stop) e d in
    stretch_same n (group_glyph s) (glyph_of_group g) from stop r alone.1 (λ c x. group_ends g stop c alone.0 x) p
