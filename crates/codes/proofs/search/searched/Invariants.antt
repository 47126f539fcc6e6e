use Rattle.std.proofs.Common.{◌-◌}
use Rattle.codes.proofs.OrderLemmas.{Halves}
use Rattle.codes.proofs.search.searched.Given as goal

abbrev pub invariant-loop-low : goal.invariant-loop-low
invariant-loop-low g l = Halves (g.E.Ends.end_of l.ends) (g.E.Ends.count_of l.ends) l.code l.low l.high

abbrev pub decreases-loop-low : goal.decreases-loop-low
decreases-loop-low g l = l.high - l.low
