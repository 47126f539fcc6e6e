use Rattle.std.proofs.Common.{arith}
use Rattle.cmap_subtables.proofs.GroupLemmas.{groups_end}
use Rattle.font_map.proofs.LaidOutLemmas.{laid_all}
use Rattle.font_map.proofs.laid_out.lay_groups.Goals as goal

pub returns-clause-map : goal.returns-clause-map
returns-clause-map c =
    laid_all _ _ _ _ _ c.loop-i.invariant.laid (groups_end _ _ (omega arith)) c.unmap_free.ensures.free
    c.unmap_free.ensures.taken
