use Rattle.sequence_parts.proofs.LawLemmas.{whole_again}
use Rattle.sequence_parts.proofs.laws.whole_is_of_its_parts.Goals as goal

pub returns : goal.returns
returns c = whole_again
