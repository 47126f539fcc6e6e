use Rattle.colour_parts.proofs.TellingLemmas.{wholes_made}
use Rattle.colour_parts.proofs.laws.wholes_are_made.Goals as goal

pub returns : goal.returns
returns c = wholes_made
