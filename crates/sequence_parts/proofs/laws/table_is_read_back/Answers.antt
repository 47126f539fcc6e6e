use Rattle.sequence_parts.proofs.CmapLemmas.{table_read_back}
use Rattle.sequence_parts.proofs.laws.table_is_read_back.Goals as goal

pub returns : goal.returns
returns c = table_read_back
