use Rattle.std.proofs.Common.{◌≡◌, ℕ, List, [], length, Option, refl, ap, arith}
use Rattle.std.specs.Option.{unwrap_or}
use Rattle.font_theory.proofs.EntryLemmas.{length-blank}
use Rattle.divided_tables.proofs.MetricTableLemmas.{blank_made, or_empty}
use Rattle.divided_tables.proofs.metrics.metrics_frame.Goals as goal

pub returns-in_ok-bytes-in-Some-clause-table : goal.returns-in_ok-bytes-in-Some-clause-table
returns-in_ok-bytes-in-Some-clause-table g c =
    let copied : ℕ → Option (List ℕ) = (g.S.Source.content_of c.args.source.now).copied in
    let header : unwrap_or (copied c.args.header) [] ≡ c.unwrap_or.result.now =
    or_empty (λ b. b.now) c.copied-in-Some.result _ c.unwrap_or.result (copied c.args.header)
    c.copied-in-Some.ensures.table c.unwrap_or.ensures refl in
    blank_made copied c.args.header c.args.slot c.glyph_count-count.result c.pairs_by-pairs.result
    c.unwrap_or.result.now c.in-Some.table.now c.in_ok-bytes-in-Some.bytes.items
    c.in-Some.ensures.table header c.glyph_count-count.ensures c.pairs_by-pairs.ensures.pairs
    c.in_ok-bytes-in-Some.ensures.table

pub returns-in_ok-bytes-in-Some-clause-small : goal.returns-in_ok-bytes-in-Some-clause-small
returns-in_ok-bytes-in-Some-clause-small g c =
    let same = ap (λ (l : List ℕ). length l) c.in_ok-bytes-in-Some.ensures.table in
    let size = length-blank c.pairs_by-pairs.result c.glyph_count-count.result c.in-Some.table.now in
    omega (arith, c.in-Some.ensures.small)
