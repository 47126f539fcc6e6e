-- The tables that a cut makes anew, by slot, this project's own.
use Rattle.std.specs.Prelude.{◌≡◌, ◌≢◌, ℕ, Option, None, Some}
use Rattle.sfnt_bytes.specs.declared.tag.TheConstants.{CMAP, GLYF, HEAD, LOCA}
use Rattle.font_write.specs.declared.made.Made.{Made}
use Rattle.font_write.specs.declared.made.Made.TheVariants.{Cmap, Glyf, Head, Loca}

-- the slot of a table that is made anew
abbrev pub slot_of : Made → ℕ
slot_of Cmap = CMAP
slot_of Glyf = GLYF
slot_of Head = HEAD
slot_of Loca = LOCA

-- the table that is made anew in a slot, or none: then the slot is that of no such table
abbrev pub IsMadeIn : ℕ → Option Made → Type 0
IsMadeIn slot (Some made) = slot ≡ slot_of made
IsMadeIn slot None = (slot ≢ CMAP) × (slot ≢ GLYF) × (slot ≢ HEAD) × (slot ≢ LOCA)
