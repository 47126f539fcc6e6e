use Rattle.std.proofs.Common.{◌≡◌, ◌++◌, drop, flat_map}
use Rattle.colour_tables.specs.MadeLayers.{layer_bytes}
use Rattle.colour_writers.proofs.layers.push_layers.Given as goal

abbrev pub invariant-loop-j : goal.invariant-loop-j
invariant-loop-j g l =
    l.made.items ++ flat_map layer_bytes (drop l.j l.layers) ≡ l.initial.made.items ++ flat_map layer_bytes l.layers
