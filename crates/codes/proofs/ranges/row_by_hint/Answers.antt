use Rattle.std.proofs.Common.{arith}
use Rattle.codes.proofs.RangeLemmas.{row_none, row_some}
use Rattle.codes.proofs.ranges.row_by_hint.Goals as goal

pub returns-then-i-ranges : goal.returns-then-i-ranges
returns-then-i-ranges c = row_none _ _ _ c.requires c.find_range-i.ensures (omega arith)

pub returns : goal.returns
returns c = row_some _ _ _ _ c.requires c.find_range-i.ensures (omega arith) c.max.ensures
