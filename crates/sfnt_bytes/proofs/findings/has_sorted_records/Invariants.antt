use Rattle.std.proofs.Common.{◌≡◌, ◌∷◌}
use Rattle.sfnt_bytes.specs.Directory.{records_of}
use Rattle.sfnt_bytes.specs.Findings.{is_ascending}
use Rattle.sfnt_bytes.proofs.findings.has_sorted_records.Given as goal

abbrev pub invariant-loop-entry : goal.invariant-loop-entry
invariant-loop-entry l = is_ascending (records_of l.file) ≡ is_ascending (l.last ∷ l.entry-iterator)
