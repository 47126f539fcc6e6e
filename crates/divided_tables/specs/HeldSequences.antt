-- The table of variation sequences of a font that is open, where it is read: this project's own (OpenType 1.9, cmap,
-- Format 14: Unicode variation sequences).
use Rattle.std.specs.Prelude.{◌≡◌, ℕ, List, [], Option, unwrap_or}
use Rattle.std.specs.Option.{option_map}
use Rattle.variation_sequences.specs.Pairs.{part_of}
use Rattle.variation_sequences.specs.declared.variant.Pair.{Pair}
use Rattle.font_theory.specs.Content.{glyph_count}
use Rattle.font_theory.specs.Parting.{Tables}
use Rattle.font_theory.specs.SequenceTable.{sequence_table, sequences_in}
use Rattle.font_theory.specs.declared.kinds.TheConstants.{SEQUENCES}
use Rattle.divided_tables.specs.PartedTable.{GlyphParts}

-- the number of glyphs, and the pairs of the table, where there is one
pub record OpenTable : Type 0 where
  pub count : ℕ
  pub held : Option (List Pair)

-- what it has of single glyphs
abbrev pub held_parts : OpenTable → GlyphParts
held_parts o = record { count = o.count; part = λ g. sequence_table (part_of (unwrap_or o.held []) g) }

-- it is that of some tables
pub record AreHeldBy (copied : Tables) (o : OpenTable) : Type 0 where
  pub count_is : o.count ≡ glyph_count copied
  pub held_are : o.held ≡ option_map (sequences_in o.count) (copied SEQUENCES)
