-- Words of private contracts and of proofs: no public clause names them.
use Rattle.codes.specs.declared.runs.Run.{Run}
use Rattle.font_theory.specs.Bytes.{bytes32}
use Rattle.font_theory.specs.Content.{Content, glyph_count}
use Rattle.font_theory.specs.File.{Writing, behind, cmap_front, entries_at, entry_bytes, writing_of, loca_bytes}
use Rattle.font_theory.specs.File.{outlines_from, sequence_front}
use Rattle.font_write.specs.Parts.{IsNextKept, bodies_to, bytes_at, groups_bytes, tables_to, start_of, glyf_to}
use Rattle.font_write.specs.declared.made_loca.Walk.{Walk}
use Rattle.font_write.specs.declared.plan.Plan.{Plan}
use Rattle.sfnt_bytes.specs.declared.tag.TheConstants.{ALL_SLOTS}
use Rattle.std.specs.List.{flat_map}
use Rattle.std.specs.Prelude.{◌≡◌, ℕ, nat_eq, ◌++◌, List, length, if◌then◌else◌}

-- the records of the tables at the first n places
unfoldable pub records_to : Writing → Content → ℕ → List ℕ
records_to writing K n = flat_map entry_bytes (entries_at (start_of writing K) (tables_to writing K n))

-- what stands in `cmap` before n groups, with these bytes behind them
unfoldable pub front_before : Writing → ℕ → List ℕ → List ℕ
front_before writing n t = if nat_eq (length t) 0 then cmap_front writing n else flat_map bytes32 (sequence_front n)

-- `cmap` up to these bytes
unfoldable pub mapping_bytes : Writing → List Run → List ℕ → List ℕ
mapping_bytes writing runs t = front_before writing (length runs) t ++ groups_bytes runs

-- the offsets of the outlines of the first n glyphs, with that of their end
unfoldable pub loca_to : Content → ℕ → List ℕ
loca_to K n = loca_bytes (outlines_from K 0 n)

-- `glyf` in a form, and its outlines alone
abbrev pub all_outlines : Content → List ℕ
all_outlines K = glyf_to K (glyph_count K.copied)

abbrev pub glyf_in : Writing → Content → List ℕ
glyf_in writing K = all_outlines K ++ behind writing (all_outlines K)

-- all offsets
abbrev pub all_offsets : Content → List ℕ
all_offsets K = loca_to K (glyph_count K.copied)

-- how far a walk over the glyphs is: the length of the outlines below a glyph, and the next kept one
pub record IsWalk (K : Content) (g : ℕ) (walk : Walk) : Type 0 where
  pub offset : walk.offset ≡ length (glyf_to K g)
  pub next : IsNextKept K g walk.next

-- the bytes of the table in a slot, in the profile of a plan; all records, and all tables, each padded
abbrev pub planned_table : Plan → Content → ℕ → List ℕ
planned_table plan K slot = bytes_at (writing_of plan.profile) K slot

abbrev pub planned_records : Plan → Content → List ℕ
planned_records plan K = records_to (writing_of plan.profile) K ALL_SLOTS

abbrev pub planned_bodies : Plan → Content → List ℕ
planned_bodies plan K = bodies_to (writing_of plan.profile) K ALL_SLOTS
