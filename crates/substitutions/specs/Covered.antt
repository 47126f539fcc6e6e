-- Which glyphs a subtable covers, and their Coverage indices (OpenType 1.9, OpenType Layout Common Table Formats,
-- Coverage table).
use Rattle.std.specs.Prelude.{◌≡◌, ℕ, ◌+◌, ◌-◌, ◌*◌, ◌<◌, ◌≤◌, List}
use Rattle.sfnt_bytes.specs.Number.{u16_at}
use Rattle.substitutions.specs.Lookups.{IsSubtable, LeadsTo}

-- i is a Coverage index of a glyph: where a malformed Coverage gives it several, a shaper may find any of them
pub data HasIndex (table : List ℕ) (coverage glyph i : ℕ) : Type 0 where
  -- format 1: glyphArray[i] is the glyph
  listed : u16_at table coverage ≡ 1 → i < u16_at table (coverage + 2)
      → u16_at table (coverage + 4 + 2 * i) ≡ glyph → HasIndex table coverage glyph i
  -- format 2: from startGlyphID to endGlyphID of range k, i is startCoverageIndex + glyph - startGlyphID
  ranged : (k : ℕ) → u16_at table coverage ≡ 2 → k < u16_at table (coverage + 2)
      → u16_at table (coverage + 4 + 6 * k) ≤ glyph → glyph ≤ u16_at table (coverage + 6 + 6 * k)
      → u16_at table (coverage + 8 + 6 * k) + (glyph - u16_at table (coverage + 4 + 6 * k)) ≡ i
      → HasIndex table coverage glyph i

-- a subtable of a type and a format, whose Coverage gives a glyph an index (GSUB, substFormat and coverageOffset of
-- each subtable)
pub record Covers (table : List ℕ) (kind format at glyph i : ℕ) : Type 0 where
  pub subtable : IsSubtable table kind at
  pub subst_format : u16_at table at ≡ format
  pub coverage : ℕ
  pub coverage_offset : LeadsTo (u16_at table (at + 2)) at coverage
  pub index : HasIndex table coverage glyph i
