use Rattle.std.proofs.Common.{arith}
use Rattle.table_tests.proofs.ToyLemmas.{made_end}
use Rattle.table_tests.proofs.toys.made.Goals as goal

pub returns-clause-table : goal.returns-clause-table
returns-clause-table g c =
    made_end _ c.args.table.now c.loop-j.bytes.items c.loop-j.j
    (omega (arith, c.loop-j-test.false, c.loop-j.auto.j-end)) c.loop-j.invariant
