-- Advance widths and left side bearings (OpenType 1.9, `hmtx`).
use Rattle.std.specs.Prelude.{ℕ, ◌+◌, ◌-◌, ◌*◌, ℤ, nat_lt, List, if◌then◌else◌}
use Rattle.sfnt_bytes.specs.Number.{u16_at}
use Rattle.font_tables.specs.Fields.{i16_at, metric_count_of}
use Rattle.font_tables.specs.Tables.{hmtx_of}

-- hMetrics[i].advanceWidth
unfoldable pub advance_width : List ℕ → ℕ → ℕ
advance_width hmtx i = u16_at hmtx (4 * i)

-- hMetrics[i].lsb
unfoldable pub lsb : List ℕ → ℕ → ℤ
lsb hmtx i = i16_at hmtx (4 * i + 2)

-- leftSideBearings[i], which stand after h pairs
unfoldable pub left_side_bearing : List ℕ → ℕ → ℕ → ℤ
left_side_bearing hmtx h i = i16_at hmtx (4 * h + 2 * i)

-- advance and left side bearing of glyph g, where there are h pairs: past them with the advance of the last
-- pair
unfoldable pub metric_in : List ℕ → ℕ → ℕ → ℕ × ℤ
metric_in hmtx h g = if nat_lt g h then (advance_width hmtx g, lsb hmtx g)
    else (advance_width hmtx (h - 1), left_side_bearing hmtx h (g - h))

-- those of a glyph of a file
unfoldable pub metric_of : List ℕ → ℕ → ℕ × ℤ
metric_of file g = metric_in (hmtx_of file) (metric_count_of file) g
