use Rattle.std.proofs.Common.{sym, ◌∙◌}
use Rattle.colour_readers.proofs.PaintListLemmas.{box_none}
use Rattle.colour_readers.proofs.paint_lists.box_left.Goals as goal

pub returns-in_err-left : goal.returns-in_err-left
returns-in_err-left c =
    c.from_residual.ensures ∙ box_none _ _ _ c.requires.count (sym c.in_err-left.was ∙ c.tree_left.ensures)
