use Rattle.colour_writers.proofs.TableLemmas.{header_put}
use Rattle.colour_writers.proofs.made_paints.push_paint_header.Goals as goal

pub returns-clause-made : goal.returns-clause-made
returns-clause-made g c =
    header_put _ _ _ _ _ _ _ _ _ _ _ _ _ _ _ _ c.args.plan.at c.in_ok-push_u32.ensures.made
    c.in_ok-push_u32-2.ensures.made c.in_ok-push_u32-3.ensures.made c.in_ok-push_u32-4.ensures.made
    c.in_ok-push_u32-5.ensures.made c.offset_or_none.ensures c.offset_or_none-2.ensures c.offset_or_none-3.ensures
    c.offset_or_none-4.ensures c.offset_or_none-5.ensures
