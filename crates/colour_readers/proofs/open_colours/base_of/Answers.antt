use Rattle.colour_readers.proofs.TableLemmas.{base_found, base_nowhere, bases_ascend}
use Rattle.colour_readers.proofs.open_colours.base_of.Goals as goal

pub row_of-requires : goal.row_of-requires
row_of-requires c = bases_ascend c.requires.0 _ _ c.requires.1 c.base_rows-rows.ensures

pub returns-in-Some : goal.returns-in-Some
returns-in-Some c =
    base_found c.requires.0 _ _ _ _ _ _ c.requires.1 c.base_rows-rows.ensures c.in-Some.ensures c.base_at.ensures

pub returns-in-None : goal.returns-in-None
returns-in-None c = base_nowhere c.requires.0 _ _ _ c.requires.1 c.base_rows-rows.ensures c.in-None.ensures
