use Rattle.std.proofs.Common.{◌≡◌, ◌+◌, ◌-◌, ◌<◌, ◌++◌}
use Rattle.colour_tables.specs.ListedGlyphs.{listed}
use Rattle.colour_tables.specs.MadeLayers.{base_rows, layer_total}
use Rattle.colour_writers.proofs.layers.push_base_rows.Given as goal

abbrev pub invariant-loop-g : goal.invariant-loop-g
invariant-loop-g g l = record {
  put : l.made.items ++ base_rows l.first (listed (g.P.Layered.said l.picked) l.g (l.n - l.g))
      ≡ l.initial.made.items ++ base_rows 0 (listed (g.P.Layered.said l.picked) 0 l.n);
  room : l.first + layer_total (listed (g.P.Layered.said l.picked) l.g (l.n - l.g)) < 65536;
}
