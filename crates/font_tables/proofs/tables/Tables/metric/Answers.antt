use Rattle.std.proofs.Common.{arith, ap}
use Rattle.font_tables.specs.Fields.{glyph_count_of}
use Rattle.font_tables.proofs.TableLemmas.{has_metric}
use Rattle.font_tables.proofs.tables.Tables.metric.Goals as goal

pub read_metric-requires : goal.read_metric-requires
read_metric-requires c =
    let kept = c.self.invariant in let low = c.requires in let same = ap glyph_count_of c.self.view_is in
    has_metric _ _ _ c.args.g kept.sound kept.hmtx_is kept.metric_count_is (omega arith)
