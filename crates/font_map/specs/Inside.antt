-- Words of private contracts and of proofs: no public clause names them.
use Rattle.codes.specs.CharacterMap.{clipped}
use Rattle.codes.specs.declared.code_points.TheConstants.{CODES}
use Rattle.font_map.specs.Cmap.{chosen_record, subtable_at}
use Rattle.cmap_subtables.specs.Format12.{groups_of, group_glyph, holds}
use Rattle.cmap_subtables.specs.Format4.{segment_glyph}
use Rattle.font_map.specs.Mapping.{listed_glyph}
use Rattle.font_map.specs.Refusals.{map_fault}
use Rattle.font_map.specs.declared.subtable.Subtable.{Subtable}
use Rattle.font_map.specs.declared.subtable.Subtable.TheVariants.{Segments, Groups}
use Rattle.cmap_subtables.specs.declared.format12.ListedGroup.{ListedGroup}
use Rattle.std.specs.Prelude.{ℕ, ◌+◌, ◌<◌, ◌≤◌, List, ◌≡◌, ◌≢◌, ◌*◌, length, find, slice_index, Some, None}

-- no code from a given one on up to a stop is free: 0xFFFF stands where a code is free
abbrev pub NoneFree : List ℕ → ℕ → ℕ → Type 0
NoneFree glyphs from stop = (c : ℕ) → from ≤ c → c < stop → slice_index glyphs c ≢ 0xFFFF

-- how many blocks of 16 codes from each block on are known to have no free code, 0 where nothing is known
pub record IsSkip (glyphs skip : List ℕ) : Type 0 where
  pub codes : length glyphs ≡ CODES
  pub blocks : length skip ≡ 0x11001
  pub within : (b : ℕ) → b < 0x11001 → b + slice_index skip b < 0x11001
  pub taken : (b : ℕ) → NoneFree glyphs (16 * b) (16 * (b + slice_index skip b))

-- no code from a given one on up to another is free, and the other one is free where it is below a stop
pub record IsFirstFree (glyphs : List ℕ) (from stop at : ℕ) : Type 0 where
  pub from_on : from ≤ at
  pub passed : NoneFree glyphs from at
  pub free : at < stop → slice_index glyphs at ≡ 0xFFFF

-- taken codes have their glyphs; free ones have none yet, and the rest of the groups decides them
pub record IsLaid (s : List ℕ) (n : ℕ) (rest : List ListedGroup) (glyphs : List ℕ) : Type 0 where
  pub taken : (c : ℕ) → slice_index glyphs c ≢ 0xFFFF → slice_index glyphs c ≡ clipped n (group_glyph s) c
  pub left : (c : ℕ) → slice_index glyphs c ≡ 0xFFFF → find (holds c) (groups_of s) ≡ find (holds c) rest

-- the glyph of a code by the segments or groups of a subtable
abbrev pub subtable_glyph : Subtable → ℕ → ℕ
subtable_glyph (Segments s) = segment_glyph s
subtable_glyph (Groups s) = group_glyph s

-- what a mapping to n glyphs keeps: nothing is refused; the chosen record, which is within `cmap`, and its
-- subtable
pub record IsChosen (cmap : List ℕ) (n k : ℕ) (subtable : Subtable) : Type 0 where
  pub glyphs : n < 65536
  pub accepted : map_fault cmap ≡ None
  pub record_is : chosen_record cmap ≡ Some k
  pub record_in : 12 + 8 * k ≤ length cmap
  pub header : 16 ≤ length (subtable_at cmap k)
  pub map : subtable_glyph subtable ≡ listed_glyph (subtable_at cmap k)
