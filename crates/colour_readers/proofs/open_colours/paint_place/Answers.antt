use Rattle.colour_readers.proofs.TableLemmas.{paint_nowhere, paint_placed, roots_ascend}
use Rattle.colour_readers.proofs.open_colours.paint_place.Goals as goal

pub row_of-requires : goal.row_of-requires
row_of-requires c = roots_ascend c.requires.0 _ _ c.requires.1 c.root_rows-rows.ensures

pub returns-in-Some : goal.returns-in-Some
returns-in-Some c =
    paint_placed c.requires.0 _ _ _ _ _ _ _ c.requires.1 c.root_rows-rows.ensures c.in-Some.ensures c.root_at.ensures

pub returns-in-None : goal.returns-in-None
returns-in-None c = paint_nowhere c.requires.0 _ _ _ c.requires.1 c.root_rows-rows.ensures c.in-None.ensures
