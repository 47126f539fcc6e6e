use Rattle.std.proofs.Common.{◌≡◌, ◌+◌, ◌-◌, ◌≤◌, ◌++◌}
use Rattle.colour_tables.specs.ListedGlyphs.{listed}
use Rattle.colour_tables.specs.MadePaints.{clip_rows, forest_of}
use Rattle.colour_tables.specs.MadePaints.{rooted}
use Rattle.colour_tables.specs.PaintLists.{forest_size}
use Rattle.colour_writers.proofs.made_lists.push_clips.Given as goal

abbrev pub invariant-loop-g : goal.invariant-loop-g
invariant-loop-g g l = record {
  put : l.made.items ++ clip_rows l.list (rooted l.place (listed (g.P.Planted.trees l.picked) l.g (l.n - l.g)))
      ≡ l.initial.made.items ++ clip_rows l.list (rooted l.at (listed (g.P.Planted.trees l.picked) 0 l.n));
  next : l.place + forest_size (forest_of (listed (g.P.Planted.trees l.picked) l.g (l.n - l.g))) ≡ l.at +
      forest_size (forest_of (listed (g.P.Planted.trees l.picked) 0 l.n));
  least : l.list ≤ l.place;
}
