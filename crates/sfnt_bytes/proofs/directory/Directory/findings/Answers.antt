use Rattle.std.proofs.Common.{arith}
use Rattle.sfnt_bytes.proofs.RefusalLemmas.{is_readable, kept_not_outside}
use Rattle.sfnt_bytes.specs.Directory.{kept_tag}
use Rattle.sfnt_bytes.proofs.directory.Directory.findings.Goals as goal

pub findings_in-requires-clause-room : goal.findings_in-requires-clause-room
findings_in-requires-clause-room c = (is_readable _ c.self.invariant).records

pub findings_in-requires-clause-head : goal.findings_in-requires-clause-head
unfolding kept_tag
findings_in-requires-clause-head c = kept_not_outside c.self.inside.file.now 6 c.self.invariant (omega arith)
