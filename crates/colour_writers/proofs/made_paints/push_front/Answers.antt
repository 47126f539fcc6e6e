use Rattle.colour_readers.specs.Varying.{store_by}
use Rattle.colour_writers.proofs.TableLemmas.{front_put}
use Rattle.colour_writers.proofs.made_paints.push_front.Goals as goal

pub push_base_rows-requires : goal.push_base_rows-requires
push_base_rows-requires g c = c.requires.plan.few

pub returns-clause-made : goal.returns-clause-made
returns-clause-made g c =
    front_put c.args.n (g.C.Coloured.colours c.args.colours.now) c.args.plan (store_by c.args.varies.now) _ _ _ _ _
    c.requires.plan c.in_ok-push_header.ensures.made c.in_ok-push_paint_header.ensures.made
    c.in_ok-push_base_rows.ensures.made c.in_ok-push_layer_rows.ensures.made
