use Rattle.std.proofs.Common.{◌≡◌, ◌++◌, drop, map}
use Rattle.divided_tables.specs.SequenceIndex.{key_of}
use Rattle.divided_tables.proofs.sequence_index.keys_in.Given as goal

abbrev pub invariant-loop-pair : goal.invariant-loop-pair
invariant-loop-pair g l = l.keys.items ++ map key_of (drop l.pair-index l.pairs) ≡ map key_of l.pairs
