use Rattle.std.proofs.Common.{◌≡◌, ◌+◌, ◌-◌, ◌≤◌, ◌++◌}
use Rattle.colour_tables.specs.ListedGlyphs.{listed}
use Rattle.colour_tables.specs.MadePaints.{forest_of, forest_places, place_rows}
use Rattle.colour_tables.specs.PaintLists.{forest_size}
use Rattle.colour_writers.proofs.made_lists.push_all_places.Given as goal

abbrev pub invariant-loop-g : goal.invariant-loop-g
invariant-loop-g g l = record {
  put : l.made.items ++ place_rows l.list (forest_places l.place
      (forest_of (listed (g.P.Planted.trees l.picked) l.g (l.n - l.g))))
      ≡ l.initial.made.items ++ place_rows l.list
      (forest_places l.at (forest_of (listed (g.P.Planted.trees l.picked) 0 l.n)));
  next : l.place + forest_size (forest_of (listed (g.P.Planted.trees l.picked) l.g (l.n - l.g))) ≡ l.at +
      forest_size (forest_of (listed (g.P.Planted.trees l.picked) 0 l.n));
  least : l.list ≤ l.place;
}
