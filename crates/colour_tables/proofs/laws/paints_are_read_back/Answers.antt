use Rattle.colour_tables.proofs.PaintTableLemmas.{paints_back}
use Rattle.colour_tables.proofs.laws.paints_are_read_back.Goals as goal

pub returns : goal.returns
returns c = paints_back
