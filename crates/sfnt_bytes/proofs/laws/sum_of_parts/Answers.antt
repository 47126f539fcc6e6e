use Rattle.sfnt_bytes.proofs.WordLemmas.{sum_of_parts}
use Rattle.sfnt_bytes.proofs.laws.sum_of_parts.Goals as goal

pub returns : goal.returns
returns c = sum_of_parts
