use Rattle.std.proofs.Common.{◌≡◌, ◌++◌, drop, flat_map}
use Rattle.variation_sequences.specs.Written.{mapping_bytes}
use Rattle.variation_sequences.proofs.made_sequences.push_table.Given as goal

abbrev pub invariant-loop-pair : goal.invariant-loop-pair
invariant-loop-pair g l =
    l.made.items ++ flat_map mapping_bytes (drop l.pair-index l.group)
    ≡ l.initial.made.items ++ flat_map mapping_bytes l.group
