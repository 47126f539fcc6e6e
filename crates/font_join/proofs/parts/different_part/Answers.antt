use Rattle.std.proofs.Common.{◌≤◌, ◌+◌, ◌∙◌, sym, arith}
use Rattle.font_theory.specs.Content.{Content, glyph_count}
use Rattle.divided_tables.specs.DividedTables.{has_same_parts}
use Rattle.font_join.specs.KindInside.{has_others}
use Rattle.font_join.proofs.FirstLemmas.{fails_next}
use Rattle.font_join.proofs.ToldLemmas.{others_found, others_none, others_skip}
use Rattle.font_join.proofs.parts.different_part.Goals as goal

pub loop-g-init : goal.loop-g-init
loop-g-init g c =
    let C : Content = g.K.Source.content_of c.args.k.now in
    let D : Content = g.L.Source.content_of c.args.l.now in (
      others_skip C D (has_same_parts c.args.first.now c.args.second.now) 0 c.next_kept-g.result c.next_kept-g.ensures
          (λ h low. absurd (omega (arith, low))),
      c.next_kept-g.ensures.within,
    )

pub loop-g-preserved : goal.loop-g-preserved
loop-g-preserved g c =
    let C : Content = g.K.Source.content_of c.args.k.now in
    let D : Content = g.L.Source.content_of c.args.l.now in
    let below = fails_next (has_others C D c.args.first.now c.args.second.now) c.loop-g.g c.loop-g.invariant.0
    (sym c.has_others.ensures ∙ c.if-has_others.false) in (
      others_skip C D (has_same_parts c.args.first.now c.args.second.now) (c.loop-g.g + 1)
          c.next_kept-g-in-loop-g.result c.next_kept-g-in-loop-g.ensures below,
      c.next_kept-g-in-loop-g.ensures.within,
    )

pub returns-then-has_others : goal.returns-then-has_others
returns-then-has_others g c =
    others_found (g.K.Source.content_of c.args.k.now) (g.L.Source.content_of c.args.l.now)
    (has_same_parts c.args.first.now c.args.second.now) c.loop-g.g
    c.recall_laws.ensures.writable.past c.loop-g.invariant.0 (sym c.has_others.ensures ∙ c.if-has_others.true)

pub returns : goal.returns
returns g c =
    let D : Content = g.L.Source.content_of c.args.l.now in
    let past : glyph_count D.copied ≤ c.loop-g.g = omega (arith, c.loop-g-test.false, c.glyph_count-count.ensures) in
    others_none (g.K.Source.content_of c.args.k.now) D (has_same_parts c.args.first.now c.args.second.now)
    c.loop-g.g c.recall_laws-2.ensures.writable.past
    c.loop-g.invariant.0 past
