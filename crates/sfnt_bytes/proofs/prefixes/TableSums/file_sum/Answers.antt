use Rattle.sfnt_bytes.proofs.PrefixLemmas.{front_and_rest}
use Rattle.sfnt_bytes.proofs.prefixes.TableSums.file_sum.Goals as goal

pub returns : goal.returns
returns c = front_and_rest _ _ _ _ _ _ c.self.invariant.1 c.self.view_is c.file.ensures c.word_sum.ensures
