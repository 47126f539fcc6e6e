use Rattle.colour_tables.proofs.LayerReadLemmas.{read_back}
use Rattle.colour_tables.proofs.laws.layers_are_read_back.Goals as goal

pub returns : goal.returns
returns c = read_back
