use Rattle.std.proofs.Common.{◌<◌, ◌≤◌, ◌∙◌, arith, length, map}
use Rattle.std.proofs.lemmas.List.{map-set}
use Rattle.divided_tables.proofs.VariationLemmas.{data_end, data_start, data_step}
use Rattle.divided_tables.proofs.glyph_variations.kept_data.Goals as goal

pub loop-g-init : goal.loop-g-init
loop-g-init g c =
    data_start (g.S.Source.content_of c.args.source.now) c.args.variations.now.0 _ c.glyph_count-count.result
    c.next_kept-g.result c.in_ok-listed.ensures.listed (c.glyph_count-count.ensures.count ∙ c.requires)
    c.next_kept-g.ensures

pub loop-g-preserved : goal.loop-g-preserved
loop-g-preserved g c =
    let low : c.loop-g.g < length (map (λ d. d.now) c.loop-g.listed.items) =
    omega (arith, c.loop-g.invariant.count, c.loop-g-test.true, c.glyph_count-count.ensures.count, c.requires) in
    data_step (g.S.Source.content_of c.args.source.now) c.args.variations.now.0 _ _ c.loop-g.g
    c.next_kept-g-in-loop-g.result c.data.result.now c.loop-g.invariant low c.data.ensures.data
    (map-set (λ d. d.now) c.loop-g.listed.items c.loop-g.g c.data.result) c.next_kept-g-in-loop-g.ensures

pub returns-clause-listed : goal.returns-clause-listed
returns-clause-listed g c =
    let past : c.args.variations.now.1 ≤ c.loop-g.g =
    omega (arith, c.loop-g-test.false, c.glyph_count-count.ensures.count) in
    data_end (g.S.Source.content_of c.args.source.now) c.args.variations.now.0 _ c.loop-g.g c.args.variations.now.1
    c.requires past c.loop-g.invariant
