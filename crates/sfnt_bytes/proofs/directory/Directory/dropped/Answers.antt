use Rattle.sfnt_bytes.proofs.RefusalLemmas.{is_readable}
use Rattle.sfnt_bytes.proofs.directory.Directory.dropped.Goals as goal

pub dropped_in-requires : goal.dropped_in-requires
dropped_in-requires c = (is_readable _ c.self.invariant).records
