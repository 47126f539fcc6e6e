use Rattle.sfnt_bytes.proofs.RefusalLemmas.{is_readable}
use Rattle.sfnt_bytes.proofs.directory.Directory.records.Goals as goal

pub records_in-requires : goal.records_in-requires
records_in-requires c = (is_readable _ c.self.invariant).records
