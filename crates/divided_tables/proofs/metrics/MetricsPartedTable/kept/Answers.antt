use Rattle.std.specs.Option.{option_map}
use Rattle.divided_tables.proofs.MadeLemmas.{ok_as}
use Rattle.divided_tables.proofs.MetricTableLemmas.{kept_as}
use Rattle.divided_tables.proofs.metrics.MetricsPartedTable.kept.Goals as goal

pub returns-clause-table : goal.returns-clause-table
returns-clause-table g c =
    ok_as c.kept_metrics.result (λ o e. kept_as g.W.Way.HEADER c.HEADER.result g.W.Way.SLOT c.SLOT.result
    c.HEADER.ensures c.SLOT.ensures g.W.Way.header_whole (g.S.Source.content_of c.args.source.now)
    (option_map (λ v. v.items) o) e) c.kept_metrics.ensures.table
