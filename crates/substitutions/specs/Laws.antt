-- Laws of runs, this project's own, each of them the contract of a function.
use Rattle.std.specs.Prelude.{◌≡◌, ℕ, ◌<◌, ◌≤◌, ◌↔◌, nat_eq, Bool, true, false, List, length, None}
use Rattle.std.specs.List.{All, Contains}
use Rattle.sfnt_bytes.specs.Number.{u16_at}
use Rattle.sfnt_bytes.specs.declared.directory.TheConstants.{MAX_FILE}
use Rattle.sfnt_bytes.specs.declared.tag.TheConstants.{GSUB}
use Rattle.font_glyph.specs.Reach.{Reach}
use Rattle.font_layout.specs.Cleaning.{fixed, has_field}
use Rattle.font_layout.specs.Layout.{is_bad_layout, links_in}
use Rattle.font_file.specs.Font.{map_of}
use Rattle.font_theory.specs.Bytes.{padded}
use Rattle.font_theory.specs.Closed.{closed, is_bad_layout_in, is_start}
use Rattle.font_theory.specs.Content.{Wanted, glyph_count}
use Rattle.font_theory.specs.Cut.{cut}
use Rattle.font_theory.specs.Kinds.{fault_of, font_of, format_of, gsub_bytes, partition_of, settings, tables_of}
use Rattle.font_theory.specs.Links.{is_unreadable_gsub, links}
use Rattle.font_theory.specs.Parting.{parts_of}
use Rattle.font_theory.specs.declared.kinds.Kind.{Kind}
use Rattle.substitutions.specs.Shaping.{Becomes, BecomesInSteps}
use Rattle.substitutions.specs.Substitution.{FormsLigature, Replaces}

-- the cut of a font for the closure of what is wanted
abbrev pub closed_cut : Kind → List ℕ → Wanted → List ℕ
closed_cut kind file W = cut (format_of kind) file (closed (links (gsub_bytes kind file)) (map_of file) W)

-- the table has a link from a glyph to another one
abbrev pub IsLink : List ℕ → ℕ → ℕ → Type 0
IsLink table g h = Contains (links_in table) (record { from = g; to = h })

-- a GSUB that is accepted has a link from each glyph to each of those that may come in its place, and from the first
-- glyph of a ligature to the ligature
abbrev pub StepsAreLinks : Type 0
StepsAreLinks =
    (table : List ℕ) → is_bad_layout table ≡ false → (g : ℕ)
    → ((outputs : List ℕ) → Replaces table g outputs → All (IsLink table g) outputs)
    × ((others : List ℕ) (formed : ℕ) → FormsLigature table g others formed → IsLink table g formed)

-- so a run from glyphs of a set that has the links of its glyphs ends in glyphs of this set
abbrev pub RunsStayWithin : Type 0
RunsStayWithin =
    (table : List ℕ) → is_bad_layout table ≡ false → (has : ℕ → Bool)
    → ((g h : ℕ) → has g ≡ true → IsLink table g h → has h ≡ true) → (list last : List ℕ)
    → BecomesInSteps table list last → All (λ g. has g ≡ true) list → All (λ g. has g ≡ true) last

-- what a run makes of .notdef, glyphs of wanted codes and wanted glyphs is in the closure of what is wanted, where the
-- table is of bytes, for numbers of glyphs have 16 bits
abbrev pub RunsAreWanted : Type 0
RunsAreWanted =
    (table : List ℕ) → is_unreadable_gsub table ≡ false → All (λ byte. byte < 256) table → (m : ℕ → ℕ) (W : Wanted)
    (list last : List ℕ) → BecomesInSteps table list last → All (λ g. is_start m W g ≡ true) list
    → All (λ g. (closed (links table) m W).glyphs g ≡ true) last

-- so a closed cut of a file has the same table, and what the font has of each glyph that a run makes of wanted text,
-- and of its components: its outline, up to zeros after it, and its parts of the divided tables, as its metrics
abbrev pub ShapedGlyphsAreKept : Type 0
ShapedGlyphsAreKept =
    (kind : Kind) (file : List ℕ) → fault_of kind file ≡ None → is_bad_layout_in (tables_of kind file) ≡ false
    → All (λ byte. byte < 256) file → (settings kind).by_number ≡ true → (W : Wanted) (list last : List ℕ)
    → BecomesInSteps (gsub_bytes kind file) list last → All (λ g. is_start (map_of file) W g ≡ true) list
    → length (closed_cut kind file W) ≤ MAX_FILE
    → (gsub_bytes kind (closed_cut kind file W) ≡ gsub_bytes kind file)
    × ((g h : ℕ) → Contains last g → g < glyph_count (tables_of kind file)
    → Reach (font_of kind file).outline (nat_eq g) h
    → ((font_of kind (closed_cut kind file W)).outline h ≡ padded ((font_of kind file).outline h))
    × ((slot : ℕ) → parts_of (partition_of kind) (tables_of kind (closed_cut kind file W)) slot h
    ≡ parts_of (partition_of kind) (tables_of kind file) slot h))

-- the list of lookups of a table comes after the header, where this has the field that is cleared
abbrev pub HasListAfterHeader : List ℕ → Type 0
HasListAfterHeader table = has_field GSUB table ≡ true → 0 < u16_at table 8 → 14 ≤ u16_at table 8

-- then the table has the same steps, and the same runs, without what varies
abbrev pub CleanedHasSameSteps : Type 0
CleanedHasSameSteps =
    (table : List ℕ) → HasListAfterHeader table → (list next : List ℕ)
    → (Becomes (fixed GSUB table) list next ↔ Becomes table list next)
    × (BecomesInSteps (fixed GSUB table) list next ↔ BecomesInSteps table list next)
