use Rattle.std.proofs.Common.{◌≡◌, drop}
use Rattle.colour_tables.specs.LayerLists.{are_bases, bases_of, layer_count}
use Rattle.colour_readers.proofs.layer_lists.are_bases.Given as goal

abbrev pub invariant-loop-i : goal.invariant-loop-i
invariant-loop-i l =
    are_bases l.n (layer_count l.t) 0 (bases_of l.t) ≡ are_bases l.n l.layers l.from (drop l.i (bases_of l.t))
