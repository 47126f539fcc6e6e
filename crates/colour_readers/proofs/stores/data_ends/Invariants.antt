use Rattle.std.proofs.Common.{◌≡◌}
use Rattle.colour_tables.specs.Stores.{data_ends}
use Rattle.colour_readers.proofs.stores.data_ends.Given as goal

abbrev pub invariant-loop-k : goal.invariant-loop-k
invariant-loop-k l = l.end ≡ data_ends l.b l.k
