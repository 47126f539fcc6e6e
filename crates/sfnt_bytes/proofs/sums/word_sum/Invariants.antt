use Rattle.std.proofs.Common.{◌≡◌, ◌+◌, ◌%◌, ◌^◌, length, sum}
use Rattle.sfnt_bytes.specs.Sums.{words, checksum_of}
use Rattle.sfnt_bytes.proofs.sums.word_sum.Given as goal

-- what is summed and what is left give the whole
abbrev pub invariant-loop-rest : goal.invariant-loop-rest
invariant-loop-rest l = (l.sum + sum (words l.rest)) % 2 ^ 32 ≡ checksum_of l.b

abbrev pub decreases-loop-rest : goal.decreases-loop-rest
decreases-loop-rest l = length l.rest
