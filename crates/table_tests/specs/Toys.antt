-- A divided table of the tests' own: a byte that is of no glyph, and then a byte of each glyph.
use Rattle.std.specs.Prelude.{◌≡◌, ◌⊎◌, ℕ, ◌+◌, ◌-◌, nat_eq, Bool, true, List, [], ◌∷◌, length, map, slice_index}
use Rattle.std.specs.Prelude.{if◌then◌else◌, None, Some}
use Rattle.std.specs.List.{range_with_len}
use Rattle.sfnt_bytes.specs.declared.tag.TheConstants.{MAXP}
use Rattle.font_theory.specs.Content.{glyph_count, table_in_slot}
use Rattle.font_theory.specs.Parting.{Parting, Tables}
use Rattle.divided_tables.specs.PartedTable.{GlyphParts}
use Rattle.table_tests.specs.declared.toys.TheConstants.{TOYS}

-- the byte of a glyph, none where it is 0
abbrev pub toy : ℕ → List ℕ
toy byte = if nat_eq byte 0 then [] else byte ∷ []

-- the bytes of a table with these toys
abbrev pub toy_byte : (ℕ → List ℕ) → List ℕ → ℕ → ℕ
toy_byte parts table j = if nat_eq j 0 then slice_index table 0 else slice_index (parts (j - 1)) 0

abbrev pub with_toys : (ℕ → List ℕ) → List ℕ → List ℕ
with_toys parts table = map (toy_byte parts table) (range_with_len 0 (length table))

-- how it is divided
unfoldable pub toys : Parting
toys = record {
  frame = λ _ t. with_toys (λ _. []) t;
  part = λ _ t g. toy (slice_index t (g + 1));
  whole = λ _ frame parts. with_toys parts frame;
  fits = λ _ _ _. true;
}

-- one that is open
pub record OpenToys : Type 0 where
  pub bytes : List ℕ
  pub count : ℕ

pub record AreToysOf (c : Tables) (o : OpenToys) : Type 0 where
  pub bytes_are : o.bytes ≡ table_in_slot c TOYS
  pub count_is : o.count ≡ glyph_count c

abbrev pub toys_parts : OpenToys → GlyphParts
toys_parts o = record { count = o.count; part = λ g. toy (slice_index o.bytes (g + 1)) }

-- a table of either of two fonts is refused
abbrev pub IsEitherRefused : (Tables → Bool) → Tables → Tables → Type 0
IsEitherRefused refuses c d = (refuses c ≡ true) ⊎ (refuses d ≡ true)

-- the tables of a font of three glyphs that has toys alone
unfoldable pub toys_alone : List ℕ → Tables
toys_alone bytes slot =
    if nat_eq slot MAXP then Some (0 ∷ 1 ∷ 0 ∷ 0 ∷ 0 ∷ 3 ∷ []) else if nat_eq slot TOYS then Some bytes else None
