use Rattle.colour_parts.proofs.TellingLemmas.{cuts_say}
use Rattle.colour_parts.proofs.laws.cuts_say.Goals as goal

pub returns : goal.returns
returns c = cuts_say
