use Rattle.sequence_parts.proofs.ClashLemmas.{clash_in_two}
use Rattle.sequence_parts.proofs.laws.clash_is_in_two_parts.Goals as goal

pub returns : goal.returns
returns c = clash_in_two
