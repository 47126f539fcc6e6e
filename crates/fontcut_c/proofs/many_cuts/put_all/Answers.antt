use Rattle.std.proofs.Common.{◌<◌, ◌≤◌, length, arith}
use Rattle.std.specs.List.{concat}
use Rattle.font_theory.specs.File.{current_writing, file}
use Rattle.fontcut_c.specs.Inside.{files_of}
use Rattle.fontcut_c.proofs.FileListLemmas.{next_fits, put_more, small_file}
use Rattle.fontcut_c.proofs.many_cuts.put_all.Goals as goal

pub fill_at-size-requires-clause-small : goal.fill_at-size-requires-clause-small
fill_at-size-requires-clause-small g c =
    let file_of = λ (source : g.row.S.Denot). file current_writing (g.S.Source.content_of source) in
    small_file file_of c.args.sources.now c.loop-index.index c.index-sources-index.result c.loop-index-test.true
    c.index-sources-index.is c.requires.small

pub fill_at-size-requires-clause-room : goal.fill_at-size-requires-clause-room
fill_at-size-requires-clause-room g c =
    let file_of = λ (source : g.row.S.Denot). file current_writing (g.S.Source.content_of source) in
    let fits : length (concat (files_of g.S.Source.content_of c.args.sources.now)) ≤ length c.loop-index.out =
    omega (arith, c.requires.room, c.loop-index.auto.out) in
    next_fits file_of c.args.sources.now c.loop-index.index c.index-sources-index.result c.loop-index-test.true
    c.index-sources-index.is c.loop-index.at (length c.loop-index.out) c.args.out.now c.loop-index.out
    c.loop-index.sizes c.loop-index.invariant fits

pub loop-index-preserved : goal.loop-index-preserved
loop-index-preserved g c =
    let file_of = λ (source : g.row.S.Denot). file current_writing (g.S.Source.content_of source) in
    let place : c.loop-index.index < length c.loop-index.sizes =
    omega (arith, c.loop-index-test.true, c.requires.places, c.loop-index.auto.sizes) in
    put_more file_of c.args.sources.now c.loop-index.index c.index-sources-index.result c.loop-index-test.true
    c.index-sources-index.is c.loop-index.at c.fill_at-size.result c.args.out.now c.loop-index.out
    c.fill_at-size.new.out c.loop-index.sizes c.loop-index.invariant place c.fill_at-size.ensures
