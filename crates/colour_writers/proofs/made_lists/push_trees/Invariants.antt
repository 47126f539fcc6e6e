use Rattle.std.proofs.Common.{◌≡◌, ◌+◌, ◌-◌, ◌++◌}
use Rattle.colour_tables.specs.ListedGlyphs.{listed}
use Rattle.colour_tables.specs.MadePaints.{forest_bytes, forest_layers, forest_of}
use Rattle.colour_writers.proofs.made_lists.push_trees.Given as goal

abbrev pub invariant-loop-g : goal.invariant-loop-g
invariant-loop-g g l = record {
  put : l.made.items ++ forest_bytes l.index (forest_of (listed (g.P.Planted.trees l.picked) l.g (l.n - l.g)))
      ≡ l.initial.made.items ++ forest_bytes 0 (forest_of (listed (g.P.Planted.trees l.picked) 0 l.n));
  next : l.index + forest_layers (forest_of (listed (g.P.Planted.trees l.picked) l.g (l.n - l.g)))
      ≡ forest_layers (forest_of (listed (g.P.Planted.trees l.picked) 0 l.n));
}
