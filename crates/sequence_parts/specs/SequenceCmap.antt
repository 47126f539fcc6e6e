-- Laws of the `cmap` with variation sequences, this project's own (OpenType 1.9, cmap, Encoding records and encodings;
-- Format 12: Segmented coverage; Format 14: Unicode variation sequences).
use Rattle.std.specs.Prelude.{◌≡◌, ℕ, ◌≤◌, true, List, [], length, None, Some}
use Rattle.codes.specs.CharacterMap.{clipped}
use Rattle.codes.specs.Runs.{spelled}
use Rattle.codes.specs.declared.runs.Run.{Run}
use Rattle.font_map.specs.Mapping.{mapping_of}
use Rattle.font_map.specs.Refusals.{map_fault}
use Rattle.variation_sequences.specs.Encoding.{subtable_of}
use Rattle.variation_sequences.specs.Written.{AreOrdered, subtable_bytes}
use Rattle.variation_sequences.specs.declared.variant.Pair.{Pair}
use Rattle.font_theory.specs.Content.{glyph_count}
use Rattle.font_theory.specs.File.{IsWriting, Writing, cmap_bytes, cmap_of_three, cmap_with_sequences}
use Rattle.font_theory.specs.Parted.{sequences}
use Rattle.font_theory.specs.Parting.{Tables}
use Rattle.font_theory.specs.SequenceTable.{MAX_PAIRS, sequences_of_font}

-- it is accepted and maps by its groups, as a `cmap` without sequences
pub record MapsByGroups (writing : Writing) (runs : List Run) (t : List ℕ) : Type 0 where
  pub accepted : map_fault (cmap_with_sequences writing runs t) ≡ None
  pub maps : (glyphs : ℕ) → mapping_of (cmap_with_sequences writing runs t) glyphs ≡ clipped glyphs (spelled runs)
  pub same :
      (glyphs : ℕ) → mapping_of (cmap_with_sequences writing runs t) glyphs
      ≡ mapping_of (cmap_bytes writing runs) glyphs

abbrev pub SequencesChangeNoMap : Type 0
SequencesChangeNoMap =
    (writing : Writing) → IsWriting writing → (runs : List Run) (t : List ℕ) → MapsByGroups writing runs t

-- the subtable of its sequences is the one that was written
abbrev pub SequencesAreRead : Type 0
SequencesAreRead =
    (runs : List Run) (pairs : List Pair) → AreOrdered 0 0 pairs → length pairs ≤ MAX_PAIRS
    → subtable_of (cmap_of_three runs (subtable_bytes pairs)) ≡ Some (subtable_bytes pairs)

-- the table of parts that fit is that of a font with this `cmap`
abbrev pub TableIsReadBack : Type 0
TableIsReadBack =
    (writing : Writing) → IsWriting writing → (c : Tables) (parts : ℕ → List ℕ) (runs : List Run) (of_code : ℕ → ℕ)
    → sequences.fits c [] parts ≡ true
    → sequences_of_font (cmap_with_sequences writing runs (sequences.whole c [] parts)) of_code (glyph_count c)
    ≡ sequences.whole c [] parts
