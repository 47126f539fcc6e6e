-- Where the outlines of glyphs stand (OpenType 1.9, `loca` and `glyf`).
use Rattle.std.specs.Prelude.{◌≤◌, ℕ, zero, suc, ◌+◌, ◌*◌, nat_lt, Bool, false, ◌||◌, List, length, slice_range}
use Rattle.sfnt_bytes.specs.Number.{u16_at, u32_at}
use Rattle.font_tables.specs.Fields.{loca_form_of}
use Rattle.font_tables.specs.Tables.{glyf_of, loca_of}
use Rattle.font_tables.specs.declared.loca.LocaForm.{LocaForm}
use Rattle.font_tables.specs.declared.loca.LocaForm.TheVariants.{Short, Long}

-- how many bytes an offset has in `loca`
abbrev pub offset_size : LocaForm → ℕ
offset_size Short = 2
offset_size Long = 4

-- offset j, in bytes from the start of `glyf`: the short form has it divided by 2
unfoldable pub offset_at : LocaForm → List ℕ → ℕ → ℕ
offset_at Short loca j = 2 * u16_at loca (2 * j)
offset_at Long loca j = u32_at loca (4 * j)

-- one of the offsets 1 to last is below the one before it
unfoldable pub falls : LocaForm → List ℕ → ℕ → Bool
falls form loca zero = false
falls form loca (suc j) = falls form loca j || nat_lt (offset_at form loca (j + 1)) (offset_at form loca j)

-- the bytes of `glyf` between the offsets g and g + 1
abbrev pub outline_in : LocaForm → List ℕ → List ℕ → ℕ → List ℕ
outline_in form loca glyf g = slice_range glyf (offset_at form loca g) (offset_at form loca (g + 1))

-- `loca` has the offsets of glyph g and of the next one, and `glyf` the bytes between them
pub record HasOutline (form : LocaForm) (loca glyf : List ℕ) (g : ℕ) : Type 0 where
  pub start : offset_size form * (g + 1) ≤ length loca
  pub end : offset_size form * (g + 1 + 1) ≤ length loca
  pub ordered : offset_at form loca g ≤ offset_at form loca (g + 1)
  pub inside : offset_at form loca (g + 1) ≤ length glyf

-- the outline of a glyph of a file
unfoldable pub outline_of : List ℕ → ℕ → List ℕ
outline_of file g = outline_in (loca_form_of file) (loca_of file) (glyf_of file) g
