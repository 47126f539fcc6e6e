use Rattle.colour_readers.proofs.TableLemmas.{bases_ascend, layers_reached}
use Rattle.colour_readers.proofs.open_colours.has_layers.Goals as goal

pub has_row-requires : goal.has_row-requires
has_row-requires c = bases_ascend c.requires.0 _ _ c.requires.1 c.base_rows-rows.ensures

pub returns : goal.returns
returns c = layers_reached c.requires.0 _ _ _ _ c.requires.1 c.base_rows-rows.ensures c.has_row.ensures
