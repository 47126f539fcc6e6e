use Rattle.table_tests.proofs.ToyLemmas.{toys_united}
use Rattle.table_tests.proofs.toys.ToysPartedTable.united.Goals as goal

pub returns-clause-table : goal.returns-clause-table
returns-clause-table g c = toys_united (g.K.Source.content_of c.args.first.now)
    (g.L.Source.content_of c.args.second.now)
