use Rattle.std.proofs.Common.{rules}
use Rattle.sfnt_bytes.proofs.RangeLemmas.{range_with_len-step}
use Rattle.variation_sequences.proofs.encoding.first_record.Goals as goal

pub loop-k-preserved : goal.loop-k-preserved
loop-k-preserved c = search (rules, range_with_len-step)
