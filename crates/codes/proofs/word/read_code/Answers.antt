use Rattle.std.proofs.Common.{arith}
use Rattle.codes.proofs.WordLemmas.{few_small}
use Rattle.codes.proofs.word.read_code.Goals as goal

pub overflow_mul-code : goal.overflow_mul-code
overflow_mul-code c =
    omega (arith, few_small _ _ (omega (arith, c.loop-i.invariant.few)) c.loop-i.invariant.reads.small)

pub overflow_add-code : goal.overflow_add-code
overflow_add-code c =
    omega (
      arith,
      few_small _ _ (omega (arith, c.loop-i.invariant.few)) c.loop-i.invariant.reads.small,
      c.in-Some.ensures.value.0,
      c.in-Some.ensures.value.1,
    )
