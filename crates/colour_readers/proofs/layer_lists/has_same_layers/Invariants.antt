use Rattle.std.proofs.Common.{◌≡◌, drop}
use Rattle.colour_tables.specs.LayerLists.{layers_of}
use Rattle.colour_readers.proofs.layer_lists.has_same_layers.Given as goal

abbrev pub invariant-loop-j : goal.invariant-loop-j
invariant-loop-j l =
    drop l.j (layers_of l.t l.base) ≡ drop l.j (layers_of l.u l.other) → layers_of l.t l.base ≡ layers_of l.u l.other
