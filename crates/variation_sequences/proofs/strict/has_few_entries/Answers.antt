use Rattle.std.proofs.Common.{arith}
use Rattle.variation_sequences.proofs.StrictLemmas.{lists_at}
use Rattle.variation_sequences.proofs.strict.has_few_entries.Goals as goal

pub entries_under-requires-clause-lists : goal.entries_under-requires-clause-lists
entries_under-requires-clause-lists c = lists_at _ _ c.requires.lists (omega arith)
