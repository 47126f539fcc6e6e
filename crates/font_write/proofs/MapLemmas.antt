-- The map of a content that is written.
use Rattle.std.proofs.Common.{◌≡◌, ℕ, ◌<◌, refl, arith}
use Rattle.codes.specs.CharacterMap.{IsCharacterMap}
use Rattle.font_theory.specs.Content.{CODES, Content, IsWritable, glyph_count}

codes_are : CODES ≡ 0x110000
unfolding CODES
codes_are = refl

pub is_map : (K : Content) (count : ℕ) → IsWritable K → count ≡ glyph_count K.copied → count < 65536
    → IsCharacterMap K.map
is_map K count ok is small =
    record {
      codes = λ c h. let e = codes_are in ok.mapped_codes c (omega arith);
      glyphs = λ c. let h = ok.mapped_below c in omega arith;
    }
