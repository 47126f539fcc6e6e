use Rattle.std.proofs.Common.{◌≡◌, ◌+◌, ◌*◌, ◌≤◌}
use Rattle.std.specs.List.{range_with_len, sum_by}
use Rattle.variation_sequences.specs.Format14.{range_more}
use Rattle.variation_sequences.proofs.strict.codes_in.Given as goal

abbrev pub invariant-loop-i : goal.invariant-loop-i
invariant-loop-i l = record {
  sum : l.codes ≡ sum_by (λ i. range_more l.t i + 1) (range_with_len 0 l.i);
  least : l.i ≤ l.codes;
  most : l.codes ≤ 256 * l.i;
}
