use Rattle.sequence_parts.proofs.WorkedLemmas.{worked_parts}
use Rattle.sequence_parts.proofs.laws.worked_parts.Goals as goal

pub returns : goal.returns
returns c = worked_parts
