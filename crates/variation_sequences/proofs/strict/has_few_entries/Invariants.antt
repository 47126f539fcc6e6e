use Rattle.std.proofs.Common.{◌≡◌, ◌+◌}
use Rattle.std.specs.List.{range_with_len, sum_by}
use Rattle.variation_sequences.specs.Strict.{entries_under}
use Rattle.variation_sequences.proofs.strict.has_few_entries.Given as goal

abbrev pub invariant-loop-k : goal.invariant-loop-k
invariant-loop-k l = l.left + sum_by (entries_under l.s) (range_with_len 0 l.k) ≡ 1048576
