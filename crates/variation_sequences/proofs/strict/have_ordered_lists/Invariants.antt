use Rattle.std.proofs.Common.{◌≡◌, ◌-◌}
use Rattle.std.specs.List.{list_all, range_with_len}
use Rattle.variation_sequences.specs.Format14.{selector_count}
use Rattle.variation_sequences.specs.Strict.{has_ordered_lists}
use Rattle.variation_sequences.proofs.strict.have_ordered_lists.Given as goal

abbrev pub invariant-loop-k : goal.invariant-loop-k
invariant-loop-k l = list_all (has_ordered_lists l.s) (range_with_len 0 (selector_count l.s))
    ≡ list_all (has_ordered_lists l.s) (range_with_len l.k (l.count - l.k))
