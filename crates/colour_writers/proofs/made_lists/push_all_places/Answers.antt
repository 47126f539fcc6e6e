use Rattle.std.proofs.Common.{ℕ, ◌∙◌, ◌++◌, ◌+◌, ◌-◌, List, arith, sym}
use Rattle.std.proofs.lemmas.List.{append-nil}
use Rattle.colour_tables.specs.ListedGlyphs.{listed}
use Rattle.colour_tables.specs.MadePaints.{forest_of, forest_places, place_rows}
use Rattle.colour_tables.specs.Paints.{Tree}
use Rattle.colour_writers.proofs.ListLemmas.{list_ends, list_step}
use Rattle.colour_writers.proofs.TreeListLemmas.{places_of_put, left_less, size_step}
use Rattle.colour_writers.proofs.made_lists.push_all_places.Goals as goal

pub push_places_of-requires-clause-size : goal.push_places_of-requires-clause-size
push_places_of-requires-clause-size g c =
    omega (
      arith,
      (size_step (g.P.Planted.trees c.args.picked.now) c.loop-g.g c.args.n _
          (omega (arith, c.loop-g-test.true)) c.tree.ensures),
      c.loop-g.invariant.next,
      c.loop-g.invariant.least,
      c.requires.size,
      c.requires.room,
      left_less (g.P.Planted.trees c.args.picked.now) c.loop-g.g c.args.n
          (omega (arith, c.loop-g-test.true)),
    )

pub push_places_of-requires-clause-room : goal.push_places_of-requires-clause-room
push_places_of-requires-clause-room g c =
    omega (
      arith,
      (size_step (g.P.Planted.trees c.args.picked.now) c.loop-g.g c.args.n _
          (omega (arith, c.loop-g-test.true)) c.tree.ensures),
      c.loop-g.invariant.next,
      c.loop-g.invariant.least,
      c.requires.size,
      c.requires.room,
    )

pub loop-g-preserved : goal.loop-g-preserved
loop-g-preserved g c =
    let x = g.P.Planted.trees c.args.picked.now in
    let old = c.loop-g.made.items in
    record {
      put = places_of_put old c.push_places_of.new.made.items c.args.list c.loop-g.g c.loop-g.place
          c.in_ok-place.place _
          (listed x (c.loop-g.g + 1) (c.args.n - (c.loop-g.g + 1))) c.in_ok-place.ensures.made
          c.in_ok-place.ensures.next
          ∙ list_step (λ (es : List (ℕ × Tree)). old ++ place_rows c.args.list
          (forest_places c.loop-g.place (forest_of es))) x c.loop-g.g c.args.n _ _
          (omega (arith, c.loop-g-test.true)) c.tree.ensures c.loop-g.invariant.put;
      next = omega (
        arith,
        (size_step (g.P.Planted.trees c.args.picked.now) c.loop-g.g c.args.n _
            (omega (arith, c.loop-g-test.true)) c.tree.ensures),
        c.loop-g.invariant.next,
        c.in_ok-place.ensures.next,
      );
      least = omega (arith, c.loop-g.invariant.least, c.in_ok-place.ensures.next);
    }

pub returns-clause-made : goal.returns-clause-made
returns-clause-made g c =
    let x = g.P.Planted.trees c.args.picked.now in
    let old = c.loop-g.made.items in
    sym (append-nil old)
    ∙ list_ends (λ (es : List (ℕ × Tree)). old ++ place_rows c.args.list
    (forest_places c.loop-g.place (forest_of es))) x c.loop-g.g c.args.n _
    (omega (arith, c.loop-g-test.false)) c.loop-g.invariant.put
