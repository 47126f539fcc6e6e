use Rattle.std.proofs.Common.{arith}
use Rattle.colour_tables.proofs.ByteLemmas.{listed-count}
use Rattle.colour_writers.proofs.LayerLemmas.{total_step}
use Rattle.colour_writers.proofs.ListLemmas.{count_step}
use Rattle.colour_writers.proofs.layers.count_layers.Goals as goal

pub counted-counts-requires-clause-glyphs : goal.counted-counts-requires-clause-glyphs
counted-counts-requires-clause-glyphs g c =
    let x = g.P.Layered.said c.args.picked.now in
    omega (
      arith,
      count_step x c.loop-g.g c.args.n _ (omega (arith, c.loop-g-test.true)) c.layers.ensures,
      c.loop-g.invariant.glyphs,
      listed-count x 0 c.args.n,
      c.ranges.n.fits,
    )

pub counted-counts-requires-clause-layers : goal.counted-counts-requires-clause-layers
counted-counts-requires-clause-layers g c =
    let x = g.P.Layered.said c.args.picked.now in
    omega (
      arith,
      total_step x c.loop-g.g c.args.n _ (omega (arith, c.loop-g-test.true)) c.layers.ensures,
      c.loop-g.invariant.layers,
      c.requires,
    )

pub loop-g-preserved : goal.loop-g-preserved
loop-g-preserved g c =
    let x = g.P.Layered.said c.args.picked.now in
    let h = c.loop-g-test.true in
    record {
      glyphs = omega (
        arith,
        count_step x c.loop-g.g c.args.n _ (omega (arith, h)) c.layers.ensures,
        c.loop-g.invariant.glyphs,
        c.counted-counts.ensures.glyphs,
      );
      layers = omega (
        arith,
        total_step x c.loop-g.g c.args.n _ (omega (arith, h)) c.layers.ensures,
        c.loop-g.invariant.layers,
        c.counted-counts.ensures.layers,
      );
    }
