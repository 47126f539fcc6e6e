use Rattle.std.proofs.Common.{[], ◌∷◌, None}
use Rattle.sfnt_bytes.proofs.LineLemmas.{length-said_lines}
use Rattle.sfnt_bytes.proofs.FindingLemmas.{findings_left-few}
use Rattle.sfnt_bytes.proofs.findings.findings_in.Goals as goal

pub returns-clause-count : goal.returns-clause-count
returns-clause-count c =
    findings_left-few _ _ _ _ (length-said_lines (c.found.result ∷ c.found-2.result ∷ None ∷ []))
    c.records_in.ensures.count
