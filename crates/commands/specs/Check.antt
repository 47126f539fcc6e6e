-- What `check` prints of a file, this project's own.
use Rattle.std.specs.Prelude.{ℕ, List, [], ◌∷◌, ◌++◌, if◌then◌else◌, codes, decimal, is_none, length, Option, None}
use Rattle.std.specs.Prelude.{Some}
use Rattle.std.specs.List.{flat_map}
use Rattle.std.specs.Option.{option_map, option_map_or}
use Rattle.sfnt_bytes.specs.declared.findings.Finding.{Finding}
use Rattle.font_file.specs.declared.font_error.FontError.{FontError}
use Rattle.sfnt_bytes.specs.Refusals.{directory_fault}
use Rattle.font_file.specs.Text.{font_error_number, font_error_text}
use Rattle.sfnt_bytes.specs.Text.{finding_text}
use Rattle.sfnt_bytes.specs.Findings.{findings_of}
use Rattle.font_file.specs.Font.{font_fault}
use Rattle.commands.specs.declared.check.Report.{Report}

-- a text and a line break
abbrev pub line : List ℕ → List ℕ
line text = text ++ 10 ∷ []

-- the line of a finding
abbrev pub finding_line : Finding → List ℕ
finding_line finding = line (finding_text finding)

-- a line for each finding, and their number
abbrev pub findings_text : List Finding → List ℕ
findings_text findings =
    flat_map finding_line findings ++ line (codes "findings " ++ decimal (length findings))

-- whether the file is accepted
abbrev pub verdict_text : Option FontError → List ℕ
verdict_text None = line (codes "accepted")
verdict_text (Some error) = line (codes "refused " ++ decimal (font_error_number error) ++ 32 ∷ font_error_text error)

-- the findings of a file whose directory is not refused
abbrev pub read_findings : List ℕ → Option (List Finding)
read_findings file = if is_none (directory_fault file) then Some (findings_of file) else None

-- the findings, where there are some to be had, and the verdict
abbrev pub report_text : Option (List Finding) → Option FontError → List ℕ
report_text findings fault = option_map_or findings_text findings [] ++ verdict_text fault

-- all that `check` prints
unfoldable pub check_text : List ℕ → List ℕ
check_text file = report_text (read_findings file) (font_fault file)

-- the findings that a report holds
abbrev pub shown_findings : {A : Type 0} → Report A → Option (List Finding)
shown_findings report = option_map (λ findings. findings.items) report.findings
