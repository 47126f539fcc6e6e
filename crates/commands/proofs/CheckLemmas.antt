-- The findings of a file that is accepted are those that are read.
use Rattle.std.proofs.Common.{◌≡◌, ℕ, List, Some, None, refl}
use Rattle.sfnt_bytes.specs.Findings.{findings_of}
use Rattle.font_file.specs.Font.{font_fault}
use Rattle.font_subset.proofs.FontLemmas.{directory_fault-accepted}
use Rattle.commands.specs.Check.{read_findings}

pub read_findings_accepted : (file : List ℕ) → font_fault file ≡ None → read_findings file ≡ Some (findings_of file)
read_findings_accepted file accepted = rw (directory_fault-accepted file accepted) refl
