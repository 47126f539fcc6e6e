-- Runs of codes on glyphs, and the groups of a map (OpenType 1.9, cmap, Format 12: Segmented coverage).
use Rattle.std.specs.Prelude.{◌≡◌, ◌≢◌, ℕ, zero, suc, ◌+◌, ◌-◌, ◌<◌, ◌≤◌, nat_le, nat_eq, ◌&&◌, List, [], ◌∷◌, Bool}
use Rattle.std.specs.Prelude.{if◌then◌else◌, length, Option, MatchOption}
use Rattle.std.specs.List.{slice_get}
use Rattle.codes.specs.CharacterMap.{IsCharacterMap, restricted}
use Rattle.codes.specs.declared.code_points.TheConstants.{CODES, LAST_CODE}
use Rattle.codes.specs.declared.runs.Run.{Run}

-- no code from `from` on is mapped
abbrev pub NoRun : (ℕ → ℕ) → ℕ → Type 0
NoRun m from = (c : ℕ) → from ≤ c → m c ≡ 0

-- the least mapped code from `from` on, and codes after it on neighbouring glyphs
pub record IsPiece (m : ℕ → ℕ) (from : ℕ) (run : Run) : Type 0 where
  pub from_on : from ≤ run.first
  pub least : (c : ℕ) → from ≤ c → c < run.first → m c ≡ 0
  pub order : run.first ≤ run.last
  pub within : run.last ≤ LAST_CODE
  pub mapped : 0 < run.glyph
  pub small : run.glyph + (run.last - run.first) < 65536
  pub along : (c : ℕ) → run.first ≤ c → c ≤ run.last → m c + run.first ≡ run.glyph + c

-- the first piece from a code on, if there is one
abbrev pub IsNext : (ℕ → ℕ) → ℕ → Option Run → Type 0
IsNext m from found = MatchOption found (NoRun m from) (IsPiece m from)

-- a piece, as long as neighbouring codes lie on neighbouring glyphs
pub record IsRun (m : ℕ → ℕ) (from : ℕ) (run : Run) : Type 0 where
  pub piece : IsPiece m from run
  pub longest : m (run.last + 1) + run.first ≢ run.glyph + (run.last + 1)

-- all runs from a code on
abbrev pub AreRuns : (ℕ → ℕ) → ℕ → List Run → Type 0
AreRuns m from [] = NoRun m from
AreRuns m from (run ∷ runs) = IsRun m from run × AreRuns m (run.last + 1) runs

-- a code on a glyph in front of groups: it joins the first of them where both are neighbours
abbrev pub with_code : ℕ → ℕ → List Run → List Run
with_code c zero runs = runs
with_code c (suc g) [] = record { first = c; last = c; glyph = suc g } ∷ []
with_code c (suc g) (run ∷ runs) =
    if nat_eq run.first (c + 1) && nat_eq run.glyph (suc g + 1)
    then record { first = c; last = run.last; glyph = suc g } ∷ runs
    else record { first = c; last = c; glyph = suc g } ∷ run ∷ runs

-- the groups of the n codes from a given one on
unfoldable pub groups_among : (ℕ → ℕ) → ℕ → ℕ → List Run
groups_among m c zero = []
groups_among m c (suc n) = with_code c (m c) (groups_among m (c + 1) n)

-- the groups of a map on the codes from a given one on
unfoldable pub groups_from : (ℕ → ℕ) → ℕ → List Run
groups_from m from = groups_among m from (CODES - from)

-- the glyph that groups give a code
abbrev pub spelled : List Run → ℕ → ℕ
spelled [] c = 0
spelled (run ∷ runs) c =
    if nat_le run.first c && nat_le c run.last then run.glyph + (c - run.first) else spelled runs c

-- each group has a code and no glyph 0, and begins above the end of the one before it; the first is not below
-- a bound
abbrev pub AreAscending : ℕ → List Run → Type 0
AreAscending low [] = Unit {0}
AreAscending low (run ∷ runs) =
    (low ≤ run.first) × (run.first ≤ run.last) × (0 < run.glyph) × AreAscending (suc run.last) runs

-- a group begins at the code and at the glyph after the last ones of another
abbrev pub GoesOn : Run → Run → Type 0
GoesOn run next = (next.first ≡ run.last + 1) × (next.glyph ≡ run.glyph + (run.last - run.first) + 1)

-- no group goes on from the one before it
abbrev pub AreApart : List Run → Type 0
AreApart [] = Unit {0}
AreApart (run ∷ []) = Unit {0}
AreApart (run ∷ next ∷ runs) = (GoesOn run next → ⊥) × AreApart (next ∷ runs)

-- ascending groups that spell exactly the map, of which no two could be one
pub record AreCanonical (m : ℕ → ℕ) (runs : List Run) : Type 0 where
  pub ascending : AreAscending 0 runs
  pub exact : (c : ℕ) → spelled runs c ≡ m c
  pub apart : AreApart runs

-- each map has canonical groups, no others, and they are its runs one after the other; likewise on the codes
-- from a given one on
pub record CanonicalGroups (m : ℕ → ℕ) : Type 0 where
  pub there : AreCanonical m (groups_from m 0)
  pub alone : (runs : List Run) → AreCanonical m runs → runs ≡ groups_from m 0
  pub behind : (from : ℕ) → AreCanonical (restricted (nat_le from) m) (groups_from m from)
  pub runs : (from : ℕ) → AreRuns m from (groups_from m from)
  pub one : (from : ℕ) (runs : List Run) → AreRuns m from runs → runs ≡ groups_from m from

-- no ascending list of groups that spells a map on a set is shorter than the canonical one
abbrev pub FewestGroups : Type 0
FewestGroups =
    (wanted : ℕ → Bool) (m : ℕ → ℕ) (runs : List Run) → IsCharacterMap m → AreAscending 0 runs →
    ((c : ℕ) → spelled runs c ≡ restricted wanted m c)
    → length (groups_from (restricted wanted m) 0) ≤ length runs

-- the run from a code on is the first of the canonical groups of the map on the codes from there on, and
-- there is none where these are none
abbrev pub RunIsFirstGroup : Type 0
RunIsFirstGroup =
    (m : ℕ → ℕ) (from : ℕ) (found : Option Run) (groups : List Run) → IsCharacterMap m →
    MatchOption found (NoRun m from) (IsRun m from)
    → AreCanonical (restricted (nat_le from) m) groups → found ≡ slice_get groups 0
