use Rattle.std.proofs.Common.{◌≡◌, ◌+◌, true}
use Rattle.colour_tables.specs.LayerLists.{are_layers, depth}
use Rattle.colour_tables.specs.ListedGlyphs.{each_below, sum_below}
use Rattle.colour_writers.proofs.layers.layers_have_room.Given as goal

abbrev pub invariant-loop-g : goal.invariant-loop-g
invariant-loop-g g l = record {
  each : each_below (λ h. are_layers l.n (g.P.Layered.said l.picked h)) l.g ≡ true;
  room : l.left + sum_below (λ h. depth (g.P.Layered.said l.picked h)) l.g ≡ 65535;
}
