use Rattle.std.proofs.Common.{◌≡◌, ◌++◌}
use Rattle.sfnt_bytes.specs.Findings.{findings_of}
use Rattle.commands.proofs.check.listed_findings.Given as goal

abbrev pub invariant-loop-finding : goal.invariant-loop-finding
invariant-loop-finding g l = l.listed.items ++ l.finding-iterator ≡ findings_of l.directory
