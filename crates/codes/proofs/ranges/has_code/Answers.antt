use Rattle.std.proofs.Common.{arith, sym}
use Rattle.codes.proofs.RangeLemmas.{member_at, member_between}
use Rattle.codes.proofs.ranges.has_code.Goals as goal

pub returns-then-i-ranges : goal.returns-then-i-ranges
returns-then-i-ranges c =
    sym (member_between _ _ _ _ c.requires c.find_range-i.ensures (omega arith) (λ l. absurd (omega (arith, l))))

pub returns-then-code-ranges : goal.returns-then-code-ranges
returns-then-code-ranges c =
    sym (member_between _ _ _ _ c.requires c.find_range-i.ensures (omega arith) (λ l. omega arith))

pub returns : goal.returns
returns c = sym (member_at _ _ _ (omega arith) (omega arith) (c.find_range-i.ensures.here (omega arith)))
