use Rattle.colour_readers.proofs.TableLemmas.{box_nowhere, box_placed, clips_ascend}
use Rattle.colour_readers.proofs.open_colours.box_place.Goals as goal

pub row_of-requires : goal.row_of-requires
row_of-requires c = clips_ascend c.requires.0 _ _ c.requires.1 c.clip_rows-rows.ensures

pub returns-in-Some : goal.returns-in-Some
returns-in-Some c =
    box_placed c.requires.0 _ _ _ _ _ _ c.requires.1 c.clip_rows-rows.ensures c.in-Some.ensures c.clip_at.ensures

pub returns-in-None : goal.returns-in-None
returns-in-None c = box_nowhere c.requires.0 _ _ _ c.requires.1 c.clip_rows-rows.ensures c.in-None.ensures
