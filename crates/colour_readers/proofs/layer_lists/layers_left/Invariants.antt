use Rattle.std.proofs.Common.{◌≡◌, drop}
use Rattle.colour_tables.specs.LayerLists.{bases_of}
use Rattle.colour_readers.specs.Rooms.{MAX_ROOM, layers_left}
use Rattle.colour_readers.proofs.layer_lists.layers_left.Given as goal

abbrev pub invariant-loop-i : goal.invariant-loop-i
invariant-loop-i l = layers_left l.n l.t MAX_ROOM (bases_of l.t) ≡ layers_left l.n l.t l.left (drop l.i (bases_of l.t))
