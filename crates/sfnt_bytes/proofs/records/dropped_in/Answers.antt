use Rattle.sfnt_bytes.proofs.DirectoryLemmas.{filter-is_dropped-few}
use Rattle.sfnt_bytes.proofs.records.dropped_in.Goals as goal

pub returns-clause-count : goal.returns-clause-count
returns-clause-count c = filter-is_dropped-few _ _ c.records_in.ensures.count
