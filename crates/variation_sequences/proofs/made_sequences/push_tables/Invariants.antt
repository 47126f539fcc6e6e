use Rattle.std.proofs.Common.{◌≡◌, ◌^◌, ◌<◌, ◌++◌, flat_map, length}
use Rattle.variation_sequences.specs.Written.{HaveSmallNumbers, grouped, mappings_bytes}
use Rattle.variation_sequences.proofs.made_sequences.push_tables.Given as goal

abbrev pub invariant-loop-left : goal.invariant-loop-left
invariant-loop-left g l = record {
  put : l.made.items ++ flat_map mappings_bytes (grouped l.left)
      ≡ l.initial.made.items ++ flat_map mappings_bytes (grouped l.pairs);
  few : length l.left < 2 ^ 32;
  small : HaveSmallNumbers l.left;
}

abbrev pub decreases-loop-left : goal.decreases-loop-left
decreases-loop-left g l = length l.left
