use Rattle.colour_readers.proofs.TableLemmas.{roots_ascend, paint_reached}
use Rattle.colour_readers.proofs.open_colours.has_paint.Goals as goal

pub has_row-requires : goal.has_row-requires
has_row-requires c = roots_ascend c.requires.0 _ _ c.requires.1 c.root_rows-rows.ensures

pub returns : goal.returns
returns c n h = paint_reached n _ _ _ _ h c.root_rows-rows.ensures c.has_row.ensures
