use Rattle.colour_parts.proofs.TellingLemmas.{names_on_cuts}
use Rattle.colour_parts.proofs.laws.names_on_cuts.Goals as goal

pub returns : goal.returns
returns c = names_on_cuts
