use Rattle.colour_parts.proofs.TellingLemmas.{parts_of_one_fit}
use Rattle.colour_parts.proofs.laws.parts_of_one_table_fit.Goals as goal

pub returns : goal.returns
returns c = parts_of_one_fit
