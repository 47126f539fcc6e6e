use Rattle.variation_sequences.proofs.FoundLemmas
use Rattle.variation_sequences.proofs.laws.found_is_listed.Goals as goal

pub returns : goal.returns
returns c = FoundLemmas.found_is_listed
