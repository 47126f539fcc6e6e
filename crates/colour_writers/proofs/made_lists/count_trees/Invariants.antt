use Rattle.std.proofs.Common.{◌≡◌, ◌+◌, ◌-◌, length}
use Rattle.colour_tables.specs.ListedGlyphs.{listed}
use Rattle.colour_tables.specs.MadePaints.{forest_layers, forest_of}
use Rattle.colour_tables.specs.PaintLists.{forest_size}
use Rattle.colour_writers.proofs.made_lists.count_trees.Given as goal

abbrev pub invariant-loop-g : goal.invariant-loop-g
invariant-loop-g g l = record {
  glyphs : l.counts.glyphs + length (listed (g.P.Planted.trees l.picked) l.g (l.n - l.g)) ≡ length
      (listed (g.P.Planted.trees l.picked) 0 l.n);
  layers : l.counts.layers + forest_layers (forest_of (listed (g.P.Planted.trees l.picked) l.g (l.n - l.g)))
      ≡ forest_layers (forest_of (listed (g.P.Planted.trees l.picked) 0 l.n));
  bytes : l.counts.bytes + forest_size (forest_of (listed (g.P.Planted.trees l.picked) l.g (l.n - l.g)))
      ≡ forest_size (forest_of (listed (g.P.Planted.trees l.picked) 0 l.n));
}
