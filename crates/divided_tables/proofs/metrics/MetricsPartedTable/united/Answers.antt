use Rattle.divided_tables.proofs.EitherLemmas.{metrics_united}
use Rattle.divided_tables.proofs.metrics.MetricsPartedTable.united.Goals as goal

pub returns-clause-table : goal.returns-clause-table
returns-clause-table g c =
    metrics_united g.W.Way.HEADER g.W.Way.SLOT (g.K.Source.content_of c.args.first.now)
    (g.L.Source.content_of c.args.second.now)
