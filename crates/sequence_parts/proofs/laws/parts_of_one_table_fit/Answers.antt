use Rattle.sequence_parts.proofs.LawLemmas.{one_table_fits}
use Rattle.sequence_parts.proofs.laws.parts_of_one_table_fit.Goals as goal

pub returns : goal.returns
returns c = one_table_fits
