use Rattle.colour_readers.specs.Varying.{store_by}
use Rattle.colour_writers.proofs.SizeLemmas.{table_small}
use Rattle.colour_writers.proofs.TableLemmas.{table_put}
use Rattle.colour_writers.proofs.made_paints.write_table.Goals as goal

pub returns-clause-table : goal.returns-clause-table
returns-clause-table g c =
    table_put c.args.n (g.C.Coloured.colours c.args.colours.now) (store_by c.args.varies.now) _ _ _
    c.in_ok-made.ensures.empty c.in_ok-push_front.ensures.made c.in_ok-push_lists.ensures.made

pub returns-clause-small : goal.returns-clause-small
returns-clause-small g c =
    table_small c.args.n (g.C.Coloured.colours c.args.colours.now) (store_by c.args.varies.now) c.plan_of-plan.result _
    c.requires.read c.plan_of-plan.ensures
    (table_put c.args.n (g.C.Coloured.colours c.args.colours.now) (store_by c.args.varies.now) _ _ _
    c.in_ok-made.ensures.empty c.in_ok-push_front.ensures.made c.in_ok-push_lists.ensures.made)
