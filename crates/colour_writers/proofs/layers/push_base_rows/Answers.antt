use Rattle.std.proofs.Common.{ℕ, ◌∙◌, ◌++◌, ◌+◌, ◌-◌, List, arith, sym}
use Rattle.std.proofs.lemmas.List.{append-nil}
use Rattle.colour_tables.specs.ListedGlyphs.{listed}
use Rattle.colour_tables.specs.MadeLayers.{base_rows}
use Rattle.colour_tables.specs.declared.layer.Layer.{Layer}
use Rattle.colour_writers.proofs.LayerLemmas.{total_step}
use Rattle.colour_writers.proofs.ListLemmas.{list_ends, list_step}
use Rattle.colour_writers.proofs.layers.push_base_rows.Goals as goal

pub push_base-requires : goal.push_base-requires
push_base-requires g c =
    let x = g.P.Layered.said c.args.picked.now in
    omega (
      arith,
      total_step x c.loop-g.g c.args.n _ (omega (arith, c.loop-g-test.true)) c.layers.ensures,
      c.loop-g.invariant.room,
    )

pub loop-g-preserved : goal.loop-g-preserved
loop-g-preserved g c =
    let x = g.P.Layered.said c.args.picked.now in
    let old = c.loop-g.made.items in
    let first = c.loop-g.first in
    record {
      put = c.in_ok-first.ensures.made (listed x (c.loop-g.g + 1) (c.args.n - (c.loop-g.g + 1)))
          ∙ list_step (λ (es : List (ℕ × List Layer)). old ++ base_rows first es) x c.loop-g.g c.args.n _ _
          (omega (arith, c.loop-g-test.true)) c.layers.ensures c.loop-g.invariant.put;
      room = omega (
        arith,
        total_step x c.loop-g.g c.args.n _ (omega (arith, c.loop-g-test.true)) c.layers.ensures,
        c.loop-g.invariant.room,
        c.in_ok-first.ensures.next,
      );
    }

pub returns-clause-made : goal.returns-clause-made
returns-clause-made g c =
    let x = g.P.Layered.said c.args.picked.now in
    let old = c.loop-g.made.items in
    sym (append-nil old)
    ∙ list_ends (λ (es : List (ℕ × List Layer)). old ++ base_rows c.loop-g.first es) x c.loop-g.g c.args.n _
    (omega (arith, c.loop-g-test.false)) c.loop-g.invariant.put
