use Rattle.colour_readers.proofs.TableLemmas.{clips_ascend, box_reached}
use Rattle.colour_readers.proofs.open_colours.has_box.Goals as goal

pub has_row-requires : goal.has_row-requires
has_row-requires c = clips_ascend c.requires.0 _ _ c.requires.1 c.clip_rows-rows.ensures

pub returns : goal.returns
returns c n h = box_reached n _ _ _ _ h c.clip_rows-rows.ensures c.has_row.ensures
