use Rattle.std.proofs.Common.{◌≡◌, ◌+◌}
use Rattle.colour_tables.specs.ListedGlyphs.{sum_below}
use Rattle.colour_tables.specs.PaintLists.{colour_size}
use Rattle.colour_writers.proofs.rooms.colours_have_room.Given as goal

abbrev pub invariant-loop-g : goal.invariant-loop-g
invariant-loop-g g l = l.left + sum_below (λ h. colour_size (g.C.Coloured.colours l.colours h)) l.g ≡ 16777215
