-- Laws of variation sequences as a divided table, this project's own, each of them the contract of a function.
use Rattle.std.specs.Prelude.{◌≡◌, ◌≢◌, ℕ, ◌<◌, ◌≤◌, ◌⊎◌, false, true, List, [], length, None, Some}
use Rattle.variation_sequences.specs.Pairs.{part_of, sequence_pairs}
use Rattle.variation_sequences.specs.Sequences.{sequence_of, variant_glyph, variant_of}
use Rattle.font_theory.specs.Content.{glyph_count}
use Rattle.font_theory.specs.Parting.{IsParting, Tables}
use Rattle.font_theory.specs.OrderedPairs.{glyph_in}
use Rattle.font_theory.specs.Parted.{sequences}
use Rattle.font_theory.specs.SequenceTable.{MAX_PAIRS, is_read, pairs_of_parts, sequence_table, sequences_in}
use Rattle.font_theory.specs.SequenceTable.{sequences_of_font}
use Rattle.sequence_parts.specs.Clashes.{either_part, first_clash, has_sequence}

-- variation sequences are divided as is asked, and no table of them is bad
abbrev pub SequencesAreDivided : Type 0
SequencesAreDivided = IsParting (λ _ _. false) sequences

-- the map of a font is to the glyphs that there are
abbrev pub MapsToGlyphs : Tables → (ℕ → ℕ) → Type 0
MapsToGlyphs c of_code = (code : ℕ) → of_code code < glyph_count c

-- the table of a font
abbrev pub table_among : Tables → List ℕ → (ℕ → ℕ) → List ℕ
table_among c cmap of_code = sequences_of_font cmap of_code (glyph_count c)

-- in the table of a font the part of a glyph is its pairs, and the parts fit
pub record HasOwnParts (c : Tables) (cmap : List ℕ) (of_code : ℕ → ℕ) : Type 0 where
  pub part :
      (g : ℕ) → sequences.part c (table_among c cmap of_code) g
      ≡ sequence_table (part_of (sequence_pairs cmap of_code (glyph_count c)) g)
  pub fits : sequences.fits c [] (sequences.part c (table_among c cmap of_code)) ≡ true

abbrev pub FontHasOwnParts : Type 0
FontHasOwnParts =
    (c : Tables) (cmap : List ℕ) (of_code : ℕ → ℕ) → MapsToGlyphs c of_code → HasOwnParts c cmap of_code

-- the table of the parts of a font is the table of the font
abbrev pub PartsAreTheTable : Type 0
PartsAreTheTable =
    (c : Tables) (cmap : List ℕ) (of_code : ℕ → ℕ) → MapsToGlyphs c of_code
    → sequences.whole c [] (sequences.part c (table_among c cmap of_code)) ≡ table_among c cmap of_code

-- so is the table of parts that fit that of its own parts
abbrev pub WholeIsOfItsParts : Type 0
WholeIsOfItsParts =
    (c : Tables) (parts : ℕ → List ℕ) → sequences.fits c [] parts ≡ true
    → sequences.whole c [] (sequences.part c (sequences.whole c [] parts)) ≡ sequences.whole c [] parts

-- a family of parts is of one table: it has of each glyph the part of that table, or nothing
abbrev pub AreOf : Tables → List ℕ → (ℕ → List ℕ) → Type 0
AreOf c t parts = (g : ℕ) → (parts g ≡ []) ⊎ (parts g ≡ sequences.part c t g)

-- each part is that of one of two families
abbrev pub AreFrom : (ℕ → List ℕ) → (ℕ → List ℕ) → (ℕ → List ℕ) → Type 0
AreFrom P Q parts = (g : ℕ) → (parts g ≡ P g) ⊎ (parts g ≡ Q g)

-- parts from either of two families of one table fit, and nothing is in two of them: no font has two that clash
abbrev pub PartsOfOneTableFit : Type 0
PartsOfOneTableFit =
    (c : Tables) (t : List ℕ) (P Q : ℕ → List ℕ) → AreOf c t P → AreOf c t Q
    → ((parts : ℕ → List ℕ) → AreFrom P Q parts → sequences.fits c [] parts ≡ true)
    × (first_clash (glyph_count c) P Q ≡ None)

-- parts of two families in which nothing clashes fit, unless there are too many pairs
abbrev pub FitWithoutClash : Type 0
FitWithoutClash =
    (t : Tables) (P Q : ℕ → List ℕ) → first_clash (glyph_count t) P Q ≡ None
    → length (pairs_of_parts (glyph_count t) (either_part P Q)) ≤ MAX_PAIRS
    → sequences.fits t [] (either_part P Q) ≡ true

-- the selector and code that is named is in the parts of two glyphs
abbrev pub ClashIsInTwoParts : Type 0
ClashIsInTwoParts =
    (n : ℕ) (P Q : ℕ → List ℕ) (v c : ℕ) → first_clash n P Q ≡ Some (v, c)
    → (g : ℕ) × (h : ℕ) × (g ≢ h) × (has_sequence n (either_part P Q) v c g ≡ true)
    × (has_sequence n (either_part P Q) v c h ≡ true)

-- parts of two glyphs that have one selector and code do not fit
abbrev pub TwoPartsDoNotFit : Type 0
TwoPartsDoNotFit =
    (t : Tables) (parts : ℕ → List ℕ) (v c g h : ℕ) → g < glyph_count t → h < glyph_count t → g ≢ h
    → has_sequence (glyph_count t) parts v c g ≡ true → has_sequence (glyph_count t) parts v c h ≡ true
    → sequences.fits t [] parts ≡ false

-- a table gives a selector and code what its mappings say, and its default entries nothing
abbrev pub TableHasItsGlyphs : Type 0
TableHasItsGlyphs =
    (n : ℕ) (t : List ℕ) (v c : ℕ) → is_read t ≡ true
    → glyph_in (sequences_in n t) v c ≡ variant_glyph n 0 (variant_of t v c)

-- the table of a font gives them the glyph that the font gives
abbrev pub FontHasItsGlyphs : Type 0
FontHasItsGlyphs =
    (t : Tables) (cmap : List ℕ) (of_code : ℕ → ℕ) → MapsToGlyphs t of_code → (v c : ℕ)
    → glyph_in (sequences_in (glyph_count t) (table_among t cmap of_code)) v c
    ≡ sequence_of cmap of_code (glyph_count t) v c
