use Rattle.std.proofs.Common.{ap, arith, nat_lt, sym, ◌∙◌}
use Rattle.std.specs.List.{list_all}
use Rattle.colour_tables.specs.declared.layer.Layer.{Layer}
use Rattle.colour_readers.proofs.LayerListLemmas.{layers_end, layers_fail, layers_more}
use Rattle.colour_readers.proofs.layer_lists.are_layers.Goals as goal

pub returns-then-n-u16_at : goal.returns-then-n-u16_at
returns-then-n-u16_at c =
    sym (c.loop-j.invariant
    ∙ layers_fail c.args.t.now c.args.base c.args.n _ c.loop-j.j _ c.loop-j-test.true
    (omega (arith, c.u32_at.ensures, c.from.ensures, c.from-in-loop-j.ensures)) c.u16_at.ensures c.if-n-u16_at.true)

pub loop-j-preserved : goal.loop-j-preserved
loop-j-preserved c =
    c.loop-j.invariant
    ∙ layers_more c.args.t.now c.args.base c.args.n _ c.loop-j.j _ c.loop-j-test.true
    (omega (arith, c.u32_at.ensures, c.from.ensures, c.from-in-loop-j.ensures)) c.u16_at.ensures c.if-n-u16_at.false

pub returns : goal.returns
returns c =
    sym (c.loop-j.invariant
    ∙ ap (list_all (λ (layer : Layer). nat_lt layer.glyph c.args.n)) (layers_end _ _ _ c.loop-j-test.false))
