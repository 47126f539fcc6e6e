use Rattle.std.proofs.Common.{◌-◌}
use Rattle.divided_tables.proofs.FilledLemmas.{AreFilled}
use Rattle.divided_tables.proofs.metrics.copy_kept.Given as goal

abbrev pub invariant-loop-g : goal.invariant-loop-g
invariant-loop-g g l = AreFilled (g.S.Source.content_of l.source) l.pairs l.from l.to l.g

abbrev pub decreases-loop-g : goal.decreases-loop-g
decreases-loop-g g l = l.count - l.g
