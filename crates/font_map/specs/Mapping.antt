-- The map of a `cmap` (OpenType 1.9, cmap, Character to Glyph Index Mapping Table).
use Rattle.std.specs.Prelude.{ℕ, nat_eq, List, if◌then◌else◌}
use Rattle.std.specs.Option.{option_map_or}
use Rattle.sfnt_bytes.specs.Number.{u16_at}
use Rattle.codes.specs.CharacterMap.{clipped}
use Rattle.font_map.specs.Cmap.{chosen_record, subtable_at}
use Rattle.cmap_subtables.specs.Format4.{segment_glyph}
use Rattle.cmap_subtables.specs.Format12.{group_glyph}

-- the glyph of a code as a subtable gives it: by segments in format 4, else by groups
unfoldable pub listed_glyph : List ℕ → ℕ → ℕ
listed_glyph s c = if nat_eq (u16_at s 0) 4 then segment_glyph s c else group_glyph s c

-- the map of the chosen subtable to this number of glyphs
unfoldable pub mapping_of : List ℕ → ℕ → ℕ → ℕ
mapping_of cmap glyphs =
    clipped glyphs (λ c. option_map_or (λ k. listed_glyph (subtable_at cmap k) c) (chosen_record cmap) 0)
