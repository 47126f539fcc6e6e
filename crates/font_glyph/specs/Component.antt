-- A component of a composite glyph (OpenType 1.9, glyf, Composite Glyph Description).
use Rattle.std.specs.Prelude.{◌≡◌, ℕ, ◌+◌, ◌≤◌, Bool, not, nat_eq, if◌then◌else◌, List, length, bit_and}
use Rattle.sfnt_bytes.specs.Number.{u16_at}
use Rattle.font_glyph.specs.declared.component.Component.{Component}

-- a bit of the flags is set
abbrev pub has_flag : ℕ → ℕ → Bool
has_flag flags bit = not (nat_eq (bit_and flags bit) 0)

-- MORE_COMPONENTS: another component follows
abbrev pub has_more : ℕ → Bool
has_more flags = has_flag flags 0x0020

-- the bytes of the two arguments, by ARG_1_AND_2_ARE_WORDS
abbrev pub arguments_size : ℕ → ℕ
arguments_size flags = if has_flag flags 0x0001 then 4 else 2

-- the bytes of the scales: WE_HAVE_A_SCALE counts before WE_HAVE_AN_X_AND_Y_SCALE, and that before
-- WE_HAVE_A_TWO_BY_TWO
abbrev pub scales_size : ℕ → ℕ
scales_size flags =
    if has_flag flags 0x0008 then 2 else if has_flag flags 0x0040 then 4 else if has_flag flags 0x0080 then 8
    else 0

-- the bytes of a component: flags, glyphIndex, arguments and scales
unfoldable pub component_size : ℕ → ℕ
component_size flags = 4 + arguments_size flags + scales_size flags

-- the flags and the glyphIndex that bytes begin with
abbrev pub first_component : List ℕ → Component
first_component bytes = record { flags = u16_at bytes 0; glyph = u16_at bytes 2 }

-- the bytes begin with the component, all of which is there
pub record StartsWith (bytes : List ℕ) (component : Component) : Type 0 where
  pub flags : component.flags ≡ u16_at bytes 0
  pub glyph : component.glyph ≡ u16_at bytes 2
  pub whole : component_size component.flags ≤ length bytes
