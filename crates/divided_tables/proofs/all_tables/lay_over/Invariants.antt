use Rattle.divided_tables.proofs.EitherLemmas.{AreEither}
use Rattle.divided_tables.proofs.all_tables.lay_over.Given as goal

abbrev pub invariant-loop-j : goal.invariant-loop-j
invariant-loop-j l = AreEither l.fn.first l.second l.first l.j
