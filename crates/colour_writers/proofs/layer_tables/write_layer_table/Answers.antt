use Rattle.std.proofs.Common.{arith}
use Rattle.colour_writers.proofs.LayerTableLemmas.{layer_table_put, layer_table_small}
use Rattle.colour_writers.proofs.PlanLemmas.{layers_few}
use Rattle.colour_writers.proofs.layer_tables.write_layer_table.Goals as goal

pub count_layers-counts-requires : goal.count_layers-counts-requires
count_layers-counts-requires g c = layers_few c.args.n (g.P.Layered.said c.args.picked.now) c.requires

pub push_base_rows-requires : goal.push_base_rows-requires
push_base_rows-requires g c = layers_few c.args.n (g.P.Layered.said c.args.picked.now) c.requires

pub returns-clause-table : goal.returns-clause-table
returns-clause-table g c =
    layer_table_put c.args.n _ _ (g.P.Layered.said c.args.picked.now) _ _ _ _ c.in_ok-made.ensures.empty
    c.count_layers-counts.ensures.glyphs c.count_layers-counts.ensures.layers c.in_ok-push_header.ensures.made
    c.in_ok-push_base_rows.ensures.made c.in_ok-push_layer_rows.ensures.made

pub returns-clause-small : goal.returns-clause-small
returns-clause-small g c =
    layer_table_small c.args.n (g.P.Layered.said c.args.picked.now) _ (omega (arith, c.ranges.n.fits)) c.requires
    (layer_table_put c.args.n _ _ (g.P.Layered.said c.args.picked.now) _ _ _ _ c.in_ok-made.ensures.empty
    c.count_layers-counts.ensures.glyphs c.count_layers-counts.ensures.layers c.in_ok-push_header.ensures.made
    c.in_ok-push_base_rows.ensures.made c.in_ok-push_layer_rows.ensures.made)
