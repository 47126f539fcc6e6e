use Rattle.std.proofs.Common.{[], ◌+◌, ◌&&◌, cond, get_or, is_some}
use Rattle.table_tests.specs.Toys.{toy}
use Rattle.table_tests.proofs.ToyLemmas.{AreMadeTo}
use Rattle.table_tests.proofs.toys.made.Given as goal

abbrev pub invariant-loop-j : goal.invariant-loop-j
invariant-loop-j g l = AreMadeTo
    (λ h. cond (l.any && is_some ((g.S.Source.content_of l.source).outline h)) (toy (get_or l.table (h + 1) 0)) [])
    l.table l.bytes.items l.j
