use Rattle.std.proofs.Common.{◌≡◌, ◌++◌}
use Rattle.divided_tables.proofs.sequence_tables.listed.Given as goal

abbrev pub invariant-loop-pair : goal.invariant-loop-pair
invariant-loop-pair g l = l.list.items ++ l.pair-iterator ≡ l.fn.pairs
