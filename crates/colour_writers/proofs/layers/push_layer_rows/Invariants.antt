use Rattle.std.proofs.Common.{◌≡◌, ◌-◌, ◌++◌}
use Rattle.colour_tables.specs.ListedGlyphs.{listed}
use Rattle.colour_tables.specs.MadeLayers.{layer_rows}
use Rattle.colour_writers.proofs.layers.push_layer_rows.Given as goal

abbrev pub invariant-loop-g : goal.invariant-loop-g
invariant-loop-g g l =
    l.made.items ++ layer_rows (listed (g.P.Layered.said l.picked) l.g (l.n - l.g))
    ≡ l.initial.made.items ++ layer_rows (listed (g.P.Layered.said l.picked) 0 l.n)
