-- What is counted and measured of the tables of a file before they are sent, this project's own.
use Rattle.std.specs.Prelude.{◌≡◌, ℕ, ◌≤◌, ◌<◌, List, length, slice_index_or, is_some, false}
use Rattle.sfnt_bytes.specs.Sums.{checksum_of}
use Rattle.sfnt_bytes.specs.declared.tag.TheConstants.{ALL_SLOTS}
use Rattle.sfnt_bytes.specs.Directory.{slot_at}
use Rattle.font_theory.specs.Content.{Content, glyph_count}
use Rattle.font_theory.specs.File.{Writing, adjustment_in, checksum_in_slot, file, writing_of, groups_of_content}
use Rattle.font_theory.specs.File.{size_of}
use Rattle.font_write.specs.Parts.{bytes_at, count_to, glyf_to, groups_bytes, table_at}
use Rattle.font_write.specs.declared.plan.Measure.{Measure}
use Rattle.font_write.specs.declared.plan.Plan.{Plan}
use Rattle.font_write.specs.declared.size.Counts.{Counts}
use Rattle.font_write.specs.declared.size.Size.{Size}

-- the groups of the map are counted and summed, and the bytes of the outlines counted
pub record AreCounts (K : Content) (c : Counts) : Type 0 where
  pub groups : c.groups ≡ length (groups_of_content K)
  pub group_sum : c.group_sum ≡ checksum_of (groups_bytes (groups_of_content K))
  pub outlines : c.outlines ≡ length (glyf_to K (glyph_count K.copied))
  pub small : c.outlines ≤ 0x0001_0000_0000_0000

-- so are the bytes of the file
pub record IsSize (writing : Writing) (K : Content) (s : Size) : Type 0 where
  pub counts : AreCounts K s.counts
  pub bytes : s.bytes ≡ size_of writing K
  pub written : s.bytes ≡ length (file writing K)

-- whether there is a table in the slot, its length and its checksum
pub record IsMeasure (writing : Writing) (K : Content) (slot : ℕ) (m : Measure) : Type 0 where
  pub there : m.is_there ≡ is_some (table_at writing K slot)
  pub long : m.length ≡ length (bytes_at writing K slot)
  pub summed : m.checksum ≡ checksum_in_slot slot (bytes_at writing K slot)

-- the measure of the table at a place
abbrev pub measure_at : List Measure → ℕ → Measure
measure_at measures place =
    slice_index_or measures place (record { is_there = false; length = 0; checksum = 0 })

-- the tables at the first n places are measured
abbrev pub AreMeasures : Writing → Content → ℕ → List Measure → Type 0
AreMeasures writing K n measures =
    (place : ℕ) → place < n → IsMeasure writing K (slot_at place) (measure_at measures place)

-- all tables are measured, and the tables, the groups, the outlines and checksumAdjustment are known
pub record IsPlan (K : Content) (p : Plan) : Type 0 where
  pub measures : AreMeasures (writing_of p.profile) K ALL_SLOTS p.measures
  pub count : p.count ≡ count_to (writing_of p.profile) K ALL_SLOTS
  pub counts : AreCounts K p.counts
  pub adjustment : p.adjustment ≡ adjustment_in (writing_of p.profile) K

-- the file of a content in the profile of a plan
abbrev pub planned_file : Plan → Content → List ℕ
planned_file plan K = file (writing_of plan.profile) K
