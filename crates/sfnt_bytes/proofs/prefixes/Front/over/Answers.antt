use Rattle.std.proofs.Common.{arith}
use Rattle.sfnt_bytes.proofs.PrefixLemmas.{longer_front}
use Rattle.sfnt_bytes.proofs.prefixes.Front.over.Goals as goal

pub returns : goal.returns
returns c =
    longer_front _ _ _ _ _ _ _ _ _ c.requires.front (omega arith) c.requires.order c.requires.within (omega arith)
    (omega arith) c.word_sum-gap.ensures c.requires.sum c.word_sum-last.ensures
