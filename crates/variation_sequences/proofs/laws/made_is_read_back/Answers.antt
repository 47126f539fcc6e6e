use Rattle.variation_sequences.proofs.ReadBackLemmas.{read_back}
use Rattle.variation_sequences.proofs.laws.made_is_read_back.Goals as goal

pub returns : goal.returns
returns c = read_back
