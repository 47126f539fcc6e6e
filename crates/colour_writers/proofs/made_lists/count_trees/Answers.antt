use Rattle.std.proofs.Common.{arith}
use Rattle.colour_tables.specs.ListedGlyphs.{listed}
use Rattle.colour_tables.specs.MadePaints.{forest_of}
use Rattle.colour_tables.proofs.ByteLemmas.{listed-count}
use Rattle.colour_tables.proofs.TreeByteLemmas.{layers-least}
use Rattle.colour_writers.proofs.ListLemmas.{count_step}
use Rattle.colour_writers.proofs.TreeListLemmas.{layers_step, size_step}
use Rattle.colour_writers.proofs.made_lists.count_trees.Goals as goal

pub loop-g-preserved : goal.loop-g-preserved
loop-g-preserved g c =
    let x = g.P.Planted.trees c.args.picked.now in
    let h = c.loop-g-test.true in
    record {
      glyphs = omega (
        arith,
        count_step x c.loop-g.g c.args.n _ (omega (arith, h)) c.tree.ensures,
        c.loop-g.invariant.glyphs,
        c.counted-counts.ensures.glyphs,
      );
      layers = omega (
        arith,
        layers_step x c.loop-g.g c.args.n _ (omega (arith, h)) c.tree.ensures,
        c.loop-g.invariant.layers,
        c.counted-counts.ensures.layers,
      );
      bytes = omega (
        arith,
        size_step x c.loop-g.g c.args.n _ (omega (arith, h)) c.tree.ensures,
        c.loop-g.invariant.bytes,
        c.counted-counts.ensures.bytes,
      );
    }

pub counted-counts-requires-clause-glyphs : goal.counted-counts-requires-clause-glyphs
counted-counts-requires-clause-glyphs g c =
    omega (
      arith,
      c.loop-g.invariant.glyphs,
      listed-count (g.P.Planted.trees c.args.picked.now) 0 c.args.n,
      c.ranges.n.fits,
    )

pub counted-counts-requires-clause-layers : goal.counted-counts-requires-clause-layers
counted-counts-requires-clause-layers g c =
    let x = g.P.Planted.trees c.args.picked.now in
    omega (
      arith,
      c.loop-g.invariant.layers,
      layers_step x c.loop-g.g c.args.n _ (omega (arith, c.loop-g-test.true)) c.tree.ensures,
      layers-least (forest_of (listed x 0 c.args.n)),
      c.requires,
    )

pub counted-counts-requires-clause-bytes : goal.counted-counts-requires-clause-bytes
counted-counts-requires-clause-bytes g c =
    let x = g.P.Planted.trees c.args.picked.now in
    omega (
      arith,
      c.loop-g.invariant.bytes,
      size_step x c.loop-g.g c.args.n _ (omega (arith, c.loop-g-test.true)) c.tree.ensures,
      c.requires,
    )
