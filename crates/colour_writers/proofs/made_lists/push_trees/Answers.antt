use Rattle.std.proofs.Common.{ℕ, ◌∙◌, ◌++◌, ◌+◌, ◌-◌, List, arith, sym}
use Rattle.std.proofs.lemmas.List.{append-nil}
use Rattle.colour_tables.specs.ListedGlyphs.{listed}
use Rattle.colour_tables.specs.MadePaints.{forest_bytes, forest_of}
use Rattle.colour_tables.specs.Paints.{Tree}
use Rattle.colour_tables.proofs.TreeByteLemmas.{layers-least}
use Rattle.colour_writers.proofs.ListLemmas.{list_ends, list_step}
use Rattle.colour_writers.proofs.TreeListLemmas.{tree_of_put, layers_step, left_less, size_step}
use Rattle.colour_writers.proofs.made_lists.push_trees.Goals as goal

pub push_tree_of-requires-clause-size : goal.push_tree_of-requires-clause-size
push_tree_of-requires-clause-size g c =
    omega (
      arith,
      (size_step (g.P.Planted.trees c.args.picked.now) c.loop-g.g c.args.n _
          (omega (arith, c.loop-g-test.true)) c.tree.ensures),
      left_less (g.P.Planted.trees c.args.picked.now)
          c.loop-g.g c.args.n (omega (arith, c.loop-g-test.true)),
      c.requires,
    )

pub push_tree_of-requires-clause-layers : goal.push_tree_of-requires-clause-layers
push_tree_of-requires-clause-layers g c =
    omega (
      arith,
      (layers_step (g.P.Planted.trees c.args.picked.now) c.loop-g.g c.args.n _
          (omega (arith, c.loop-g-test.true)) c.tree.ensures),
      c.loop-g.invariant.next,
      layers-least
          (forest_of (listed (g.P.Planted.trees c.args.picked.now) 0 c.args.n)),
      c.requires,
    )

pub loop-g-preserved : goal.loop-g-preserved
loop-g-preserved g c =
    let x = g.P.Planted.trees c.args.picked.now in
    let old = c.loop-g.made.items in
    record {
      put = tree_of_put old c.push_tree_of.new.made.items c.loop-g.g c.loop-g.index c.in_ok-index.index _
          (listed x (c.loop-g.g + 1) (c.args.n - (c.loop-g.g + 1))) c.in_ok-index.ensures.made
          c.in_ok-index.ensures.next
          ∙ list_step (λ (es : List (ℕ × Tree)). old ++ forest_bytes c.loop-g.index (forest_of es)) x
          c.loop-g.g c.args.n _ _
          (omega (arith, c.loop-g-test.true)) c.tree.ensures c.loop-g.invariant.put;
      next = omega (
        arith,
        (layers_step (g.P.Planted.trees c.args.picked.now) c.loop-g.g c.args.n _
            (omega (arith, c.loop-g-test.true)) c.tree.ensures),
        c.loop-g.invariant.next,
        c.in_ok-index.ensures.next,
      );
    }

pub returns-clause-made : goal.returns-clause-made
returns-clause-made g c =
    let x = g.P.Planted.trees c.args.picked.now in
    let old = c.loop-g.made.items in
    sym (append-nil old)
    ∙ list_ends (λ (es : List (ℕ × Tree)). old ++ forest_bytes c.loop-g.index (forest_of es)) x c.loop-g.g c.args.n _
    (omega (arith, c.loop-g-test.false)) c.loop-g.invariant.put
