use Rattle.std.proofs.Common.{◌≡◌, length}
use Rattle.sfnt_bytes.specs.Findings.{findings_left, is_wrong_at}
use Rattle.sfnt_bytes.specs.Lines.{when}
use Rattle.sfnt_bytes.specs.declared.findings.Finding.TheVariants.{FileSum}
use Rattle.sfnt_bytes.proofs.findings.FindingsIterator.next.Given as goal

-- what is left stays the same until a finding is given
abbrev pub invariant-loop-finding : goal.invariant-loop-finding
invariant-loop-finding l = let now = l.self-inside in let old = l.initial.self-inside in
    let after = when (is_wrong_at old.sums old.adjustment) FileSum in
    record {
      left : findings_left now.sums now.pending now.records after ≡ findings_left old.sums old.pending old.records
          after;
      file : now.sums ≡ old.sums;
      adjustment : now.adjustment ≡ old.adjustment;
    }

abbrev pub decreases-loop-finding : goal.decreases-loop-finding
decreases-loop-finding l = length l.self-inside.records
