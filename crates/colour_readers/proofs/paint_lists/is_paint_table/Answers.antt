use Rattle.std.proofs.Common.{◌∙◌}
use Rattle.colour_readers.proofs.PaintListLemmas.{paint_table_is}
use Rattle.colour_readers.proofs.paint_lists.is_paint_table.Goals as goal

pub returns : goal.returns
returns c = c.has_colours.ensures ∙ paint_table_is _ _
