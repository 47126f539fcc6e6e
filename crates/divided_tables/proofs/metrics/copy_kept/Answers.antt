use Rattle.std.proofs.Common.{◌<◌, ◌≤◌, ◌∙◌, arith}
use Rattle.font_theory.specs.Content.{Content, glyph_count}
use Rattle.divided_tables.proofs.FilledLemmas.{entry_room, filled_end, filled_start, filled_step}
use Rattle.divided_tables.proofs.metrics.copy_kept.Goals as goal

pub loop-g-init : goal.loop-g-init
loop-g-init g c =
    filled_start (g.S.Source.content_of c.args.source.now) c.args.pairs c.args.from.now c.copy_shared.new.to
    c.from.result c.next_kept-g.result (c.from.ensures ∙ c.glyph_count-count.ensures)
    c.copy_shared.ensures c.next_kept-g.ensures

pub copy_entry-requires-clause-room : goal.copy_entry-requires-clause-room
copy_entry-requires-clause-room g c =
    let K : Content = g.S.Source.content_of c.args.source.now in
    let low : c.from-in-loop-g.result < glyph_count K.copied =
    omega (arith, c.from-in-loop-g.ensures, c.loop-g-test.true, c.glyph_count-count.ensures) in
    entry_room c.args.pairs (glyph_count K.copied) c.from-in-loop-g.result c.args.from.now c.requires.some
    c.requires.few low c.requires.room

pub loop-g-preserved : goal.loop-g-preserved
loop-g-preserved g c =
    let K : Content = g.S.Source.content_of c.args.source.now in
    let low : c.loop-g.g < glyph_count K.copied = omega (arith, c.loop-g-test.true, c.glyph_count-count.ensures) in
    filled_step K c.args.pairs c.args.from.now c.loop-g.to c.copy_entry.new.to c.loop-g.g c.from-in-loop-g.result
    c.next_kept-g-in-loop-g.result c.requires.some c.requires.few low
    c.from-in-loop-g.ensures c.loop-g.invariant c.copy_entry.ensures c.next_kept-g-in-loop-g.ensures

pub returns : goal.returns
returns g c =
    let K : Content = g.S.Source.content_of c.args.source.now in
    let past : glyph_count K.copied ≤ c.loop-g.g = omega (arith, c.loop-g-test.false, c.glyph_count-count.ensures) in
    filled_end K c.args.pairs c.args.from.now c.loop-g.to c.loop-g.g c.requires.few past c.loop-g.invariant
