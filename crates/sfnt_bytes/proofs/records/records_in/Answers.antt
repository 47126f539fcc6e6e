use Rattle.std.proofs.Common.{arith}
use Rattle.sfnt_bytes.proofs.DirectoryLemmas.{length-entries_from}
use Rattle.sfnt_bytes.proofs.records.records_in.Goals as goal

pub returns-clause-count : goal.returns-clause-count
returns-clause-count c = omega (arith, length-entries_from c.args.file.now 0 c.be16.result)
