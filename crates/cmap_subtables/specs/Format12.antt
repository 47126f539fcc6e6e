-- Groups, with all bytes of `cmap` after them (OpenType 1.9, cmap, Format 12: Segmented coverage).
use Rattle.std.specs.Prelude.{ℕ, ◌+◌, ◌-◌, ◌*◌, ◌<◌, ◌≤◌, Bool, ◌&&◌, nat_le, List, length, map, find, if◌then◌else◌}
use Rattle.std.specs.Prelude.{Option, MatchOption}
use Rattle.std.specs.List.{range_with_len}
use Rattle.std.specs.Option.{option_map_or}
use Rattle.sfnt_bytes.specs.Number.{u32_at}
use Rattle.codes.specs.CharacterMap.{AreSame, IsUnmapped}
use Rattle.codes.specs.Order.{AreInOrder}
use Rattle.cmap_subtables.specs.declared.format12.ListedGroup.{ListedGroup}

-- numGroups
unfoldable pub group_count : List ℕ → ℕ
group_count s = u32_at s 12

-- all groups lie within the bytes
abbrev pub HasGroups : List ℕ → Type 0
HasGroups s = 16 + 12 * group_count s ≤ length s

-- group i: startCharCode, endCharCode and startGlyphID
unfoldable pub group_in : List ℕ → ℕ → ListedGroup
group_in s i =
    record { first = u32_at s (16 + 12 * i); last = u32_at s (20 + 12 * i); glyph = u32_at s (24 + 12 * i) }

-- all groups, as they are listed
unfoldable pub groups_of : List ℕ → List ListedGroup
groups_of s = map (group_in s) (range_with_len 0 (group_count s))

-- a group has a code
abbrev pub holds : ℕ → ListedGroup → Bool
holds c group = nat_le group.first c && nat_le c group.last

-- what a group gives one of its codes
abbrev pub glyph_along : ListedGroup → ℕ → ℕ
glyph_along group c = group.glyph + (c - group.first)

-- the glyph of a code by the first listed group that has it, and 0 where none has it
unfoldable pub group_glyph : List ℕ → ℕ → ℕ
group_glyph s c = option_map_or (λ group. glyph_along group c) (find (holds c) (groups_of s)) 0

-- the glyph of a code by one group alone
abbrev pub glyph_of_group : ListedGroup → ℕ → ℕ
glyph_of_group group c = if holds c group then glyph_along group c else 0

-- a group, if any, alone decides the codes from a given one on up to a stop, where it ends at the latest;
-- else none is mapped
abbrev pub Decides : List ℕ → ℕ → Option ListedGroup → ℕ → Type 0
Decides s from found stop =
    MatchOption found (IsUnmapped (group_glyph s) from stop)
    (λ group. (group.last < stop) × AreSame (group_glyph s) (glyph_of_group group) from stop)

-- each group lies strictly above the one before it
abbrev pub HasOrderedGroups : List ℕ → Type 0
HasOrderedGroups s = AreInOrder (λ group. group.first) (λ group. group.last) 0 (groups_of s)
