use Rattle.std.proofs.Common.{◌≡◌, ℕ, List, [], length, Option, refl, ap, arith}
use Rattle.std.specs.Option.{is_some, unwrap_or}
use Rattle.font_theory.specs.Content.{glyph_count}
use Rattle.font_theory.proofs.EntryLemmas.{length-cleared}
use Rattle.divided_tables.proofs.MetricTableLemmas.{cleared_for, cleared_nowhere, or_empty}
use Rattle.divided_tables.proofs.metrics.kept_metrics.Goals as goal

pub returns-then-pairs-eq0-clause-table : goal.returns-then-pairs-eq0-clause-table
returns-then-pairs-eq0-clause-table g c =
    let copied : ℕ → Option (List ℕ) = (g.S.Source.content_of c.args.source.now).copied in
    let header : unwrap_or (copied c.args.header) [] ≡ c.unwrap_or.result.now =
    or_empty (λ b. b.now) c.copied-in-Some.result _ c.unwrap_or.result (copied c.args.header)
    c.copied-in-Some.ensures.table c.unwrap_or.ensures refl in
    cleared_nowhere copied c.args.header c.args.slot c.glyph_count-count.result c.pairs_by-pairs.result
    c.unwrap_or.result.now c.in-Some.table.now
    (λ h. is_some ((g.S.Source.content_of c.args.source.now).outline h)) c.in-Some.ensures.table header
    c.glyph_count-count.ensures c.pairs_by-pairs.ensures.pairs c.if-pairs-eq0.true

pub returns-in_ok-bytes-in-Some-clause-table : goal.returns-in_ok-bytes-in-Some-clause-table
returns-in_ok-bytes-in-Some-clause-table g c =
    let copied : ℕ → Option (List ℕ) = (g.S.Source.content_of c.args.source.now).copied in
    let header : unwrap_or (copied c.args.header) [] ≡ c.unwrap_or.result.now =
    or_empty (λ b. b.now) c.copied-in-Some.result _ c.unwrap_or.result (copied c.args.header)
    c.copied-in-Some.ensures.table c.unwrap_or.ensures refl in
    cleared_for copied c.args.header c.args.slot c.glyph_count-count.result c.pairs_by-pairs.result
    c.unwrap_or.result.now c.in-Some.table.now c.in_ok-bytes-in-Some.bytes.items
    (λ h. is_some ((g.S.Source.content_of c.args.source.now).outline h))
    (λ h. is_some ((g.S.Source.content_of c.args.source.now).outline h)) c.in-Some.ensures.table header
    c.glyph_count-count.ensures c.pairs_by-pairs.ensures.pairs c.in_ok-bytes-in-Some.ensures.table (λ h. refl)

pub returns-in_ok-bytes-in-Some-clause-small : goal.returns-in_ok-bytes-in-Some-clause-small
returns-in_ok-bytes-in-Some-clause-small g c =
    let same = ap (λ (l : List ℕ). length l) c.in_ok-bytes-in-Some.ensures.table in
    let size = length-cleared (λ h. is_some ((g.S.Source.content_of c.args.source.now).outline h))
    c.pairs_by-pairs.result (glyph_count (g.S.Source.content_of c.args.source.now).copied) c.in-Some.table.now in
    omega (arith, c.in-Some.ensures.small)
