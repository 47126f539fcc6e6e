use Rattle.std.proofs.Common.{ℕ, ◌+◌, sym, subst}
use Rattle.font_theory.specs.File.{current_writing, file}
use Rattle.fontcut_c.specs.Inside.{AreMeasured, files_of}
use Rattle.fontcut_c.proofs.FileListLemmas.{counted_more}
use Rattle.fontcut_c.proofs.many_cuts.measured_all.Goals as goal

pub loop-index-preserved : goal.loop-index-preserved
loop-index-preserved g c =
    let file_of = λ (source : g.row.S.Denot). file current_writing (g.S.Source.content_of source) in
    let size = c.in_ok-size.size in
    let more = counted_more file_of c.args.sources.now c.loop-index.index c.index-sources-index.result
    c.loop-index-test.true c.index-sources-index.is c.loop-index.total size.bytes c.loop-index.invariant
    c.in_ok-size.ensures.counted.written c.in_ok-size.ensures.small in
    subst (λ (total : ℕ). AreMeasured (files_of g.S.Source.content_of c.args.sources.now) (c.loop-index.index + 1)
    total)
    (sym c.saturating_add-total.ensures) more
