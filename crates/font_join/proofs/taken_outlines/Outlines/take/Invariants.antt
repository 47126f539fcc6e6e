use Rattle.std.proofs.Common.{◌≡◌, ◌≤◌, ◌<◌, ◌-◌, false}
use Rattle.font_theory.specs.Content.{content, everything, glyph_count}
use Rattle.font_theory.specs.Kinds.{font_of, tables_of}
use Rattle.font_join.specs.Union.{is_other, listed_outline}
use Rattle.font_join.specs.Inside.{AreTaken}
use Rattle.font_join.proofs.taken_outlines.Outlines.take.Given as goal

-- the outlines below the glyph are taken, and none of them is another one
abbrev pub invariant-loop-g : goal.invariant-loop-g
invariant-loop-g g l =
    let L = (content (font_of l.file.0 l.file.1) everything).outline in
    AreTaken l.fn.self l.self L l.g × (l.g ≤ glyph_count (tables_of l.file.0 l.file.1))
    × ((h : _) → h < l.g → is_other (listed_outline l.fn.self) L h ≡ false)

abbrev pub decreases-loop-g : goal.decreases-loop-g
decreases-loop-g g l = l.end - l.g
