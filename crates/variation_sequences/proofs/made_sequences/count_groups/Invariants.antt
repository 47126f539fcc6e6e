use Rattle.std.proofs.Common.{◌≡◌, ◌+◌, ◌≤◌, length}
use Rattle.variation_sequences.specs.Written.{grouped}
use Rattle.variation_sequences.proofs.made_sequences.count_groups.Given as goal

abbrev pub invariant-loop-left : goal.invariant-loop-left
invariant-loop-left l = record {
  groups : l.count + length (grouped l.left) ≡ length (grouped l.pairs);
  few : l.count + length l.left ≤ length l.pairs;
}

abbrev pub decreases-loop-left : goal.decreases-loop-left
decreases-loop-left l = length l.left
