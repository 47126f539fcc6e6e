use Rattle.std.proofs.Common.{arith, rules}
use Rattle.sfnt_bytes.proofs.RangeLemmas.{range_with_len-step}
use Rattle.variation_sequences.proofs.StrictLemmas.{lists_at}
use Rattle.variation_sequences.proofs.strict.have_ordered_lists.Goals as goal

pub has_ordered_lists-requires-clause-lists : goal.has_ordered_lists-requires-clause-lists
has_ordered_lists-requires-clause-lists c = lists_at _ _ c.requires.lists (omega arith)

pub loop-k-preserved : goal.loop-k-preserved
loop-k-preserved c = search (rules, range_with_len-step)
