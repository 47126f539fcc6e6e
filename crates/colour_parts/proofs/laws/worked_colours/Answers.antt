use Rattle.colour_parts.proofs.WorkedLemmas.{worked_colours}
use Rattle.colour_parts.proofs.laws.worked_colours.Goals as goal

pub returns : goal.returns
returns c = worked_colours
