use Rattle.sequence_parts.proofs.ClashLemmas.{two_do_not_fit}
use Rattle.sequence_parts.proofs.laws.two_parts_do_not_fit.Goals as goal

pub returns : goal.returns
returns c = two_do_not_fit
