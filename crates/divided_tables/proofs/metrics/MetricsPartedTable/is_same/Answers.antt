use Rattle.std.proofs.Common.{◌∙◌}
use Rattle.std.specs.Str.{bytes_eq}
use Rattle.divided_tables.proofs.MetricTableLemmas.{same_bare}
use Rattle.divided_tables.proofs.metrics.MetricsPartedTable.is_same.Goals as goal

pub returns : goal.returns
returns g c = c.is_same.ensures ∙ (λ i. bytes_eq (c.four.ensures i) (c.four-2.ensures i))
    ∙ same_bare c.args.self.now c.args.other.now c.args.g
