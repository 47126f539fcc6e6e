-- Parts of two glyphs, this project's own: with one selector and code, and with two codes.
use Rattle.std.specs.Prelude.{◌≡◌, ℕ, nat_eq, true, false, List, [], ◌∷◌, if◌then◌else◌, None, Some}
use Rattle.variation_sequences.specs.Written.{subtable_bytes}
use Rattle.variation_sequences.specs.declared.variant.Pair.{Pair}
use Rattle.font_theory.specs.Content.{glyph_count}
use Rattle.font_theory.specs.Parting.{Tables}
use Rattle.font_theory.specs.Parted.{sequences}
use Rattle.font_theory.specs.SequenceTable.{sequence_table}
use Rattle.sequence_parts.specs.Clashes.{either_part, first_clash}

-- a code with the selector U+FE00, and the glyph of both
abbrev pub with_fe00 : ℕ → ℕ → Pair
with_fe00 code g = record { selector = 0xFE00; code = code; glyph = g }

-- a family with one part: a code with the selector U+FE00
abbrev pub lone_part : ℕ → ℕ → ℕ → List ℕ
lone_part code g h = if nat_eq h g then sequence_table (with_fe00 code g ∷ []) else []

-- among three glyphs: what the parts of two of them come to
pub record WorkedParts (t : Tables) : Type 0 where
  pub one_code : sequences.fits t [] (either_part (lone_part 0x30 1) (lone_part 0x30 2)) ≡ false
  pub named : first_clash 3 (lone_part 0x30 1) (lone_part 0x30 2) ≡ Some (0xFE00, 0x30)
  pub two_codes : sequences.fits t [] (either_part (lone_part 0x31 1) (lone_part 0x30 2)) ≡ true
  pub none_named : first_clash 3 (lone_part 0x31 1) (lone_part 0x30 2) ≡ None
  pub in_order :
      sequences.whole t [] (either_part (lone_part 0x31 1) (lone_part 0x30 2))
      ≡ subtable_bytes (with_fe00 0x30 2 ∷ with_fe00 0x31 1 ∷ [])

abbrev pub WorkedPartsAre : Type 0
WorkedPartsAre = (t : Tables) → glyph_count t ≡ 3 → WorkedParts t
