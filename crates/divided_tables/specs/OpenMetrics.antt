-- Tables of metrics that are open (OpenType 1.9, hmtx; vmtx).
use Rattle.std.specs.Prelude.{◌≡◌, ℕ, ◌+◌, ◌*◌, ◌<◌, ◌≤◌, ◌⊎◌, List, length, slice_index}
use Rattle.font_theory.specs.Content.{glyph_count, table_in_slot}
use Rattle.font_theory.specs.Parted.{bare, metric_bytes, pairs_in}
use Rattle.font_theory.specs.Parting.{Tables}
use Rattle.divided_tables.specs.PartedTable.{GlyphParts}

-- a table of metrics: the number of its pairs, 0 where its header does not describe it; that of the glyphs; its bytes
pub record OpenMetrics : Type 0 where
  pub pairs : ℕ
  pub count : ℕ
  pub bytes : List ℕ

-- its pairs, and the bearings after them, stand in it
pub record HasEntries (m : OpenMetrics) : Type 0 where
  pub few : m.pairs ≤ m.count
  pub small : m.count < 65536
  pub room : 0 < m.pairs → 2 * (m.pairs + m.count) ≤ length m.bytes

-- it is the table of a slot
pub record IsMetricsIn (copied : Tables) (header slot : ℕ) (m : OpenMetrics) : Type 0 where
  pub pairs_are : m.pairs ≡ pairs_in copied header slot
  pub count_is : m.count ≡ glyph_count copied
  pub bytes_are : m.bytes ≡ table_in_slot copied slot

-- the bytes of a glyph alone, filled with zeros to four
abbrev pub own_metrics : OpenMetrics → ℕ → List ℕ
own_metrics m g = metric_bytes m.pairs m.bytes g

-- none of them where all are 0
abbrev pub metrics_parts : OpenMetrics → GlyphParts
metrics_parts m = record { count = m.count; part = λ g. bare (own_metrics m g) }

-- the bytes of a table at a place, and from there on, are copied to the same place of another
pub record AreCopied (from : List ℕ) (at size : ℕ) (old new : List ℕ) : Type 0 where
  pub count : length new ≡ length old
  pub inside : (j : ℕ) → at ≤ j → j < at + size → slice_index new j ≡ slice_index from j
  pub outside : (j : ℕ) → (j < at) ⊎ (at + size ≤ j) → slice_index new j ≡ slice_index old j
