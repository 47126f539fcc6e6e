use Rattle.colour_readers.proofs.TableLemmas.{bases_ascend, layers_past}
use Rattle.colour_readers.proofs.open_colours.has_no_layers.Goals as goal

pub has_no_row-requires : goal.has_no_row-requires
has_no_row-requires c = bases_ascend c.requires.0 _ _ c.requires.1 c.base_rows-rows.ensures

pub returns : goal.returns
returns c t g low high =
    layers_past c.requires.0 _ _ _ _ _ c.requires.1 c.base_rows-rows.ensures c.has_no_row.ensures t g low high
