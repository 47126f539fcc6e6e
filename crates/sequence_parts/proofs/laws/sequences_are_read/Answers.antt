use Rattle.sequence_parts.proofs.CmapLemmas.{sequences_read}
use Rattle.sequence_parts.proofs.laws.sequences_are_read.Goals as goal

pub returns : goal.returns
returns c = sequences_read
