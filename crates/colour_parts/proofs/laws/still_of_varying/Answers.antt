use Rattle.colour_parts.proofs.StillLemmas.{still_of_varying}
use Rattle.colour_parts.proofs.laws.still_of_varying.Goals as goal

pub returns : goal.returns
returns c = still_of_varying
