-- How many findings a file has at the most.
use Rattle.std.proofs.Common.{ℕ, ◌*◌, ◌^◌, ◌<◌, ◌≤◌, if◌then◌else◌, true, false, not, List, [], ◌∷◌, ◌++◌, length}
use Rattle.std.proofs.Common.{length-append, Option, arith}
use Rattle.std.specs.List.{flat_map}
use Rattle.sfnt_bytes.specs.Directory.{is_within}
use Rattle.sfnt_bytes.specs.Lines.{said_lines}
use Rattle.sfnt_bytes.specs.Findings.{entry_findings, findings_left, record_lines}
use Rattle.sfnt_bytes.specs.declared.records.Entry.{Entry}
use Rattle.sfnt_bytes.specs.declared.findings.Finding.{Finding}
use Rattle.sfnt_bytes.specs.declared.findings.Finding.TheVariants.{OutOfFile}
use Rattle.sfnt_bytes.proofs.LineLemmas.{length-said_lines}

length-entry_findings : (file : List ℕ) (entry : Entry) → length (entry_findings file entry) ≤ 3
unfolding entry_findings
length-entry_findings file entry =
    elim (not (is_within file entry)) as (λ outside. length (if outside then OutOfFile entry.tag
    ∷ [] else said_lines (record_lines file entry)) ≤ 3) [
      | true ↦ omega arith
      | false ↦ length-said_lines (record_lines file entry)
    ]

length-flat_map-entry_findings : (file : List ℕ) (entries : List Entry)
    → length (flat_map (entry_findings file) entries) ≤ 3 * length entries
length-flat_map-entry_findings file [] = omega arith
length-flat_map-entry_findings file (entry ∷ entries) =
    let first = length-entry_findings file entry in
    let rest = length-flat_map-entry_findings file entries in
    let both = length-append (entry_findings file entry) (flat_map (entry_findings file) entries) in
    omega arith

-- the number of findings of a whole directory
pub findings_left-few : (file : List ℕ) (before : List Finding) (entries : List Entry) (after : Option Finding)
    → length before ≤ 3 → length entries < 65536 → length (findings_left file before entries after) < 2 ^ 18
findings_left-few file before entries after first all =
    let middle = flat_map (entry_findings file) entries in
    let found = length-flat_map-entry_findings file entries in
    let last = length-said_lines (after ∷ []) in
    let outer = length-append (before ++ middle) (said_lines (after ∷ [])) in
    let front = length-append before middle in
    omega arith
