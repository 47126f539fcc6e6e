use Rattle.colour_readers.proofs.TableLemmas.{clips_ascend, box_past}
use Rattle.colour_readers.proofs.open_colours.has_no_box.Goals as goal

pub has_no_row-requires : goal.has_no_row-requires
has_no_row-requires c = clips_ascend c.requires.0 _ _ c.requires.1 c.clip_rows-rows.ensures

pub returns : goal.returns
returns c t n g h low high =
    box_past n _ _ _ _ _ h c.clip_rows-rows.ensures c.has_no_row.ensures t g low high
