use Rattle.sfnt_bytes.proofs.RefusalLemmas.{is_readable}
use Rattle.sfnt_bytes.proofs.directory.Directory.check_tags.Goals as goal

pub first_duplicate-requires : goal.first_duplicate-requires
first_duplicate-requires c = (is_readable _ c.self.invariant).records

pub first_outside-requires : goal.first_outside-requires
first_outside-requires c = (is_readable _ c.self.invariant).records
