use Rattle.colour_parts.proofs.TellingLemmas.{parts_tell}
use Rattle.colour_parts.proofs.laws.parts_tell.Goals as goal

pub returns : goal.returns
returns c = parts_tell
