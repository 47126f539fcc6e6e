use Rattle.std.proofs.Common.{ap, length}
use Rattle.variation_sequences.proofs.GroupLemmas.{all_grouped}
use Rattle.variation_sequences.proofs.WrittenLemmas.{length-made}
use Rattle.variation_sequences.proofs.laws.made_has_size.Goals as goal

pub returns : goal.returns
returns c = λ pairs. length-made pairs (ap length (all_grouped pairs))
