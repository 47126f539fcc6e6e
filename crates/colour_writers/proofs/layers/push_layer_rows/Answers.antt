use Rattle.std.proofs.Common.{ℕ, ◌∙◌, ◌++◌, ◌+◌, ◌-◌, List, arith, sym}
use Rattle.std.proofs.lemmas.List.{append-nil}
use Rattle.colour_tables.specs.ListedGlyphs.{listed}
use Rattle.colour_tables.specs.MadeLayers.{layer_rows}
use Rattle.colour_tables.specs.declared.layer.Layer.{Layer}
use Rattle.colour_writers.proofs.LayerLemmas.{rows_put}
use Rattle.colour_writers.proofs.ListLemmas.{list_ends, list_step}
use Rattle.colour_writers.proofs.layers.push_layer_rows.Goals as goal

pub loop-g-preserved : goal.loop-g-preserved
loop-g-preserved g c =
    let x = g.P.Layered.said c.args.picked.now in
    let old = c.loop-g.made.items in
    rows_put old _ c.loop-g.g _ (listed x (c.loop-g.g + 1) (c.args.n - (c.loop-g.g + 1)))
    c.in_ok-push_layers_of.ensures.made
    ∙ list_step (λ (es : List (ℕ × List Layer)). old ++ layer_rows es) x c.loop-g.g c.args.n _ _
    (omega (arith, c.loop-g-test.true))
    c.layers.ensures c.loop-g.invariant

pub returns-clause-made : goal.returns-clause-made
returns-clause-made g c =
    let x = g.P.Layered.said c.args.picked.now in
    let old = c.loop-g.made.items in
    sym (append-nil old)
    ∙ list_ends (λ (es : List (ℕ × List Layer)). old ++ layer_rows es) x c.loop-g.g c.args.n _
    (omega (arith, c.loop-g-test.false)) c.loop-g.invariant
