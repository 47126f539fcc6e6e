-- All divided tables, as they are open and as they are made anew. This is this project's own (OpenType 1.9,
-- cmap, Format
-- 14: Unicode variation sequences; gvar; hmtx; post; vmtx).
use Rattle.std.specs.Prelude.{◌≡◌, ℕ, ◌≤◌, nat_eq, nat_lt, ◌&&◌, ◌||◌, Bool, true, List, [], length, if◌then◌else◌}
use Rattle.std.specs.Prelude.{Option, None, unwrap_or}
use Rattle.std.specs.Option.{option_or}
use Rattle.std.specs.Str.{bytes_eq}
use Rattle.sfnt_bytes.specs.declared.tag.TheConstants.{GVAR, HHEA, HMTX, POST, VHEA, VMTX}
use Rattle.font_theory.specs.Content.{Content, glyph_count, table_in_slot}
use Rattle.font_theory.specs.Kinds.{by_variations, reduced}
use Rattle.font_theory.specs.Parted.{metrics, nameless, sequences, variations}
use Rattle.font_theory.specs.Parting.{Partition, Tables, may_divide}
use Rattle.font_theory.specs.declared.kinds.TheConstants.{SEQUENCES}
use Rattle.font_write.specs.declared.source.TheConstants.{MAX_TABLE}
use Rattle.divided_tables.specs.OpenMetrics.{IsMetricsIn, OpenMetrics, metrics_parts}
use Rattle.divided_tables.specs.PartedTable.{ArePartsIn, GlyphParts, IsFine, IsUnionOf, is_bad_in, made_or_laid}
use Rattle.divided_tables.specs.PartedTable.{no_parts}
use Rattle.divided_tables.specs.HeldSequences.{AreHeldBy, OpenTable, held_parts}
use Rattle.divided_tables.specs.OpenVariations.{AreVariationsOf, OpenVariations, variations_parts}

-- the partition that divides each table that some kind divides
abbrev pub finest : Partition
finest slot = if nat_eq slot SEQUENCES then sequences else by_variations slot

-- no table that may be divided is bad, or longer than a file
abbrev pub AreFine : Tables → Type 0
AreFine c = (slot : ℕ) → may_divide slot ≡ true → IsFine slot c

-- a table is refused when the tables are opened
abbrev pub has_refused : Tables → Bool
has_refused = is_bad_in GVAR

-- the divided tables of a font, open
pub record OpenParts : Type 0 where
  pub across : OpenMetrics
  pub down : OpenMetrics
  pub names : ℕ
  pub sequences : OpenTable
  pub varied : OpenVariations

-- the number of glyphs
abbrev pub count_in : OpenParts → ℕ
count_in o = o.across.count

-- all are of as many
pub record AreOfGlyphs (o : OpenParts) : Type 0 where
  pub down_count : o.down.count ≡ count_in o
  pub names_count : o.names ≡ count_in o
  pub sequences_count : o.sequences.count ≡ count_in o
  pub varied_count : o.varied.count ≡ count_in o

-- they are those of some tables
pub record AreOpen (copied : Tables) (o : OpenParts) : Type 0 where
  pub across_is : IsMetricsIn copied HHEA HMTX o.across
  pub across_parts : ArePartsIn (metrics HHEA) HMTX copied (metrics_parts o.across)
  pub down_is : IsMetricsIn copied VHEA VMTX o.down
  pub down_parts : ArePartsIn (metrics VHEA) VMTX copied (metrics_parts o.down)
  pub names_are : o.names ≡ glyph_count copied
  pub names_parts : ArePartsIn nameless POST copied (no_parts o.names)
  pub sequences_are : AreHeldBy copied o.sequences
  pub sequences_parts : ArePartsIn sequences SEQUENCES copied (held_parts o.sequences)
  pub varied_is : AreVariationsOf copied o.varied
  pub varied_parts : ArePartsIn variations GVAR copied (variations_parts o.varied)

-- a glyph has a part that is not empty
abbrev pub has_part : GlyphParts → ℕ → Bool
has_part table g = nat_lt 0 (length (table.part g))

-- a glyph has a part in one of them
abbrev pub has_parts : OpenParts → ℕ → Bool
has_parts o g =
    has_part (metrics_parts o.across) g || has_part (metrics_parts o.down) g || has_part (no_parts o.names) g
    || has_part (variations_parts o.varied) g || has_part (held_parts o.sequences) g

-- a glyph has the same part in two tables
abbrev pub has_same_part : GlyphParts → GlyphParts → ℕ → Bool
has_same_part table other g = bytes_eq (table.part g) (other.part g)

-- a glyph has the same parts in both
abbrev pub has_same_parts : OpenParts → OpenParts → ℕ → Bool
has_same_parts o p g =
    has_same_part (metrics_parts o.across) (metrics_parts p.across) g
    && (has_same_part (metrics_parts o.down) (metrics_parts p.down) g
    && (has_same_part (no_parts o.names) (no_parts p.names) g
    && (has_same_part (variations_parts o.varied) (variations_parts p.varied) g
    && has_same_part (held_parts o.sequences) (held_parts p.sequences) g)))

-- tables in the slots of those that are divided
pub record Made : Type 0 where
  pub gvar : Option (List ℕ)
  pub hmtx : Option (List ℕ)
  pub post : Option (List ℕ)
  pub vmtx : Option (List ℕ)
  pub sequences : Option (List ℕ)

-- none of them
abbrev pub none_made : Made
none_made = record { gvar = None; hmtx = None; post = None; vmtx = None; sequences = None }

-- none of them is too long
pub record AreShort (made : Made) : Type 0 where
  pub short_gvar : length (unwrap_or made.gvar []) ≤ MAX_TABLE
  pub short_hmtx : length (unwrap_or made.hmtx []) ≤ MAX_TABLE
  pub short_post : length (unwrap_or made.post []) ≤ MAX_TABLE
  pub short_vmtx : length (unwrap_or made.vmtx []) ≤ MAX_TABLE
  pub short_sequences : length (unwrap_or made.sequences []) ≤ MAX_TABLE

-- that of a slot
unfoldable pub made_at : Made → ℕ → Option (List ℕ)
made_at made slot =
    if nat_eq slot GVAR then made.gvar else if nat_eq slot HMTX then made.hmtx
    else if nat_eq slot POST then made.post else if nat_eq slot VMTX then made.vmtx
    else if nat_eq slot SEQUENCES then made.sequences else None

-- tables with these in their slots
unfoldable pub replaced : Tables → Made → Tables
replaced copied made slot = if may_divide slot then made_at made slot else copied slot

-- what a cut of a content is written of has these, and where there is none that of the content
abbrev pub IsKept : Content → Made → Type 0
IsKept K made = (slot : ℕ) → option_or (made_at made slot) (K.copied slot) ≡ (reduced finest K).copied slot

-- laid over the tables of the first of two contents, where there is none made, they are those of the union
abbrev pub AreUnionOf : Content → Content → Made → Type 0
AreUnionOf C E made = (slot : ℕ) → may_divide slot ≡ true → IsUnionOf (finest slot) slot C E (made_at made slot)

-- tables that were made, or where there is none tables with those of other tables laid over them
abbrev pub all_laid : Tables → Made → Made → Made
all_laid copied own made = record {
  gvar = made_or_laid made.gvar own.gvar (table_in_slot copied GVAR);
  hmtx = made_or_laid made.hmtx own.hmtx (table_in_slot copied HMTX);
  post = made_or_laid made.post own.post (table_in_slot copied POST);
  vmtx = made_or_laid made.vmtx own.vmtx (table_in_slot copied VMTX);
  sequences = made_or_laid made.sequences own.sequences (table_in_slot copied SEQUENCES);
}
