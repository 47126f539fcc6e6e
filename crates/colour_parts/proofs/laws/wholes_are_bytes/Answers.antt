use Rattle.colour_parts.proofs.WholeByteLemmas.{whole_bytes}
use Rattle.colour_parts.proofs.laws.wholes_are_bytes.Goals as goal

pub returns : goal.returns
returns c = whole_bytes
