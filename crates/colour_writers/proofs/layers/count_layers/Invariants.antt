use Rattle.std.proofs.Common.{◌≡◌, ◌+◌, ◌-◌, length}
use Rattle.colour_tables.specs.ListedGlyphs.{listed}
use Rattle.colour_tables.specs.MadeLayers.{layer_total}
use Rattle.colour_writers.proofs.layers.count_layers.Given as goal

abbrev pub invariant-loop-g : goal.invariant-loop-g
invariant-loop-g g l = record {
  glyphs : l.counts.glyphs + length (listed (g.P.Layered.said l.picked) l.g (l.n - l.g))
      ≡ length (listed (g.P.Layered.said l.picked) 0 l.n);
  layers : l.counts.layers + layer_total (listed (g.P.Layered.said l.picked) l.g (l.n - l.g))
      ≡ layer_total (listed (g.P.Layered.said l.picked) 0 l.n);
}
