use Rattle.sequence_parts.proofs.LawLemmas.{table_of_parts}
use Rattle.sequence_parts.proofs.laws.parts_are_the_table.Goals as goal

pub returns : goal.returns
returns c = table_of_parts
