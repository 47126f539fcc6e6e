-- What a subtable puts in for glyphs (OpenType 1.9, GSUB, Lookup types 1 to 4 and 8).
use Rattle.std.specs.Prelude.{◌≡◌, ℕ, ◌+◌, ◌-◌, ◌*◌, ◌%◌, ◌<◌, List, [], ◌∷◌, map}
use Rattle.std.specs.List.{range_with_len}
use Rattle.sfnt_bytes.specs.Number.{u16_at}
use Rattle.substitutions.specs.Covered.{Covers}
use Rattle.substitutions.specs.Lookups.{LeadsTo}

-- an array of glyph numbers
unfoldable pub glyph_array : List ℕ → ℕ → ℕ → List ℕ
glyph_array table at count = map (λ k. u16_at table (at + 2 * k)) (range_with_len 0 count)

-- where an array of 16-bit items ends: its count stands at a place, before it
unfoldable pub array_end : List ℕ → ℕ → ℕ
array_end table at = at + 2 + 2 * u16_at table at

-- these glyphs may come in the place of a glyph
pub data Replaces (table : List ℕ) (glyph : ℕ) (outputs : List ℕ) : Type 0 where
  -- Lookup type 1, format 1: the glyph and deltaGlyphID, modulo 65536
  by_delta : {at i : ℕ} → Covers table 1 1 at glyph i
      → (glyph + u16_at table (at + 4)) % 65536 ∷ [] ≡ outputs → Replaces table glyph outputs
  -- format 2: substituteGlyphIDs[i]
  by_array : {at i : ℕ} → Covers table 1 2 at glyph i → i < u16_at table (at + 4)
      → u16_at table (at + 6 + 2 * i) ∷ [] ≡ outputs → Replaces table glyph outputs
  -- Lookup type 2: the glyphs of the Sequence table at sequenceOffsets[i]
  by_sequence : {at i sequence : ℕ} → Covers table 2 1 at glyph i → i < u16_at table (at + 4)
      → LeadsTo (u16_at table (at + 6 + 2 * i)) at sequence
      → glyph_array table (sequence + 2) (u16_at table sequence) ≡ outputs → Replaces table glyph outputs
  -- Lookup type 3: one glyph of the AlternateSet table at alternateSetOffsets[i]
  by_alternate : {at i set : ℕ} (k : ℕ) → Covers table 3 1 at glyph i → i < u16_at table (at + 4)
      → LeadsTo (u16_at table (at + 6 + 2 * i)) at set → k < u16_at table set
      → u16_at table (set + 2 + 2 * k) ∷ [] ≡ outputs → Replaces table glyph outputs
  -- Lookup type 8: substituteGlyphIDs[i], whose glyphCount stands after the offsets to the Coverage tables of the
  -- glyphs before and after
  by_reverse : {at i : ℕ} (count : ℕ) → Covers table 8 1 at glyph i
      → array_end table (array_end table (at + 4)) ≡ count → i < u16_at table count
      → u16_at table (count + 2 + 2 * i) ∷ [] ≡ outputs → Replaces table glyph outputs

-- Lookup type 4: a glyph and further ones form the ligature k of the LigatureSet table at ligatureSetOffsets[i]
pub record FormsLigature (table : List ℕ) (glyph : ℕ) (others : List ℕ) (formed : ℕ) : Type 0 where
  pub at : ℕ
  pub i : ℕ
  pub covers : Covers table 4 1 at glyph i
  pub ligature_set_count : i < u16_at table (at + 4)
  pub set : ℕ
  pub ligature_set_offset : LeadsTo (u16_at table (at + 6 + 2 * i)) at set
  pub k : ℕ
  pub ligature_count : k < u16_at table set
  pub ligature : ℕ
  pub ligature_offset : LeadsTo (u16_at table (set + 2 + 2 * k)) set ligature
  pub ligature_glyph : u16_at table ligature ≡ formed
  pub component_glyph_ids : glyph_array table (ligature + 4) (u16_at table (ligature + 2) - 1) ≡ others
