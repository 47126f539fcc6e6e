-- Links between glyphs (OpenType 1.9, GSUB): the glyphs that GSUB may put for a glyph, as `font_layout` reads
-- them.
use Rattle.std.specs.Prelude.{ℕ, nat_lt, ◌&&◌, Bool, List, length}
use Rattle.font_layout.specs.Layout.{is_bad_layout as is_bad_table}
unfoldable pub use Rattle.font_layout.specs.Cleaning.{fixed}
unfoldable pub use Rattle.font_layout.specs.Layout.{links}

-- `GSUB` cannot be read: an empty one, or none, has no links
unfoldable pub is_unreadable_gsub : List ℕ → Bool
is_unreadable_gsub gsub = nat_lt 0 (length gsub) && is_bad_table gsub
