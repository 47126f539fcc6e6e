use Rattle.std.proofs.Common.{◌≡◌, ℕ, List, ◌++◌}
use Rattle.std.specs.List.{flat_map}
use Rattle.std.specs.Fmt.{HasWritten, IsPlainFormatter}
use Rattle.std.specs.Option.{IfSome}
use Rattle.font_file.specs.Font.{map_of}
use Rattle.commands.specs.MappedGlyphs.{glyph_line, glyphs_text}
use Rattle.commands.specs.Places.{IsCodePlace, codes_at}
use Rattle.commands.proofs.GlyphsLemmas.{left_from}
use Rattle.commands.proofs.mapped_glyphs.GlyphsDisplay.fmt.Given as goal

-- what is written, and the lines of the codes that are left
abbrev pub invariant-loop-place : goal.invariant-loop-place
invariant-loop-place g l =
    IfSome l.place (IsCodePlace (map_of l.self))
    × (IsPlainFormatter l.initial.f
    → (written : List ℕ)
    × (glyphs_text l.self ≡ written ++ flat_map (glyph_line l.self) (codes_at (map_of l.self) l.place))
    × HasWritten g.W.Write.write_str_gives l.initial.f written l.f)

abbrev pub decreases-loop-place : goal.decreases-loop-place
decreases-loop-place g l = left_from l.place
