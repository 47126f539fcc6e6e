use Rattle.std.proofs.Common.{arith, zero-add, ap, ◌%◌, ◌^◌, ℕ}
use Rattle.std.proofs.lemmas.Grind.{common_steps}
use Rattle.sfnt_bytes.specs.Sums.{checksum_of}
use Rattle.sfnt_bytes.proofs.WordLemmas.{word_moves, last_moves}
use Rattle.sfnt_bytes.proofs.sums.word_sum.Goals as goal

pub loop-rest-init : goal.loop-rest-init
unfolding checksum_of
loop-rest-init c = ap (λ (x : ℕ). x % 2 ^ 32) (zero-add _)

pub loop-rest-preserved : goal.loop-rest-preserved
loop-rest-preserved c = word_moves _ _ _ _ _ (omega arith) c.be32-sum.ensures (grind (arith, common_steps))
    c.loop-rest.invariant

pub returns : goal.returns
returns c = last_moves _ _ _ _ (omega arith) c.last_word.ensures c.loop-rest.invariant
