use Rattle.std.proofs.Common.{◌≡◌, ◌∙◌, [], ap, refl, sym, unwrap_or}
use Rattle.font_theory.specs.Parting.{Tables}
use Rattle.divided_tables.specs.OpenMetrics.{IsMetricsIn, OpenMetrics}
use Rattle.divided_tables.proofs.MadeLemmas.{found_as}
use Rattle.divided_tables.proofs.MetricTableLemmas.{metrics_parts_are, or_empty, pairs_read}
use Rattle.divided_tables.proofs.metrics.MetricsOpenFrom.open.Goals as goal

pub returns : goal.returns
returns g c =
    let copied : Tables = g.B.TablesBySlot.tables_in c.args.tables.now in
    let h = g.W.Way.HEADER in
    let slot = g.W.Way.SLOT in
    let m : OpenMetrics = record {
      pairs = c.pairs_by-pairs.result;
      count = c.glyph_count-count.result;
      bytes = c.unwrap_or-bytes.result.now;
    } in
    let header : unwrap_or (copied h) [] ≡ c.unwrap_or.result.now =
    or_empty (λ b. b.now) c.table-2.result _ c.unwrap_or.result (copied h)
    (found_as (λ b. b.now) c.table-2.result (copied h) (c.table-2.ensures ∙ ap copied c.HEADER.ensures))
    c.unwrap_or.ensures refl in
    let table : unwrap_or (copied slot) [] ≡ c.unwrap_or-bytes.result.now =
    or_empty (λ b. b.now) c.table.result _ c.unwrap_or-bytes.result (copied slot)
    (found_as (λ b. b.now) c.table.result (copied slot) (c.table.ensures ∙ ap copied c.SLOT.ensures))
    c.unwrap_or-bytes.ensures refl in
    let is : IsMetricsIn copied h slot m = record {
      pairs_are = pairs_read copied h slot c.glyph_count-count.result c.pairs_by-pairs.result c.unwrap_or.result.now
          c.unwrap_or-bytes.result.now (sym table) (sym header) c.glyph_count-count.ensures
          c.pairs_by-pairs.ensures.pairs;
      count_is = c.glyph_count-count.ensures;
      bytes_are = sym table;
    } in (is, metrics_parts_are h slot g.W.Way.header_whole copied m is, refl)
