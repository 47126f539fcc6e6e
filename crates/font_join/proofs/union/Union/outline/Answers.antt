use Rattle.font_theory.proofs.HeldLemmas.{some-padded}
use Rattle.font_join.specs.Union.{Held, content_in, listed_outline}
use Rattle.font_join.proofs.MergeLemmas.{closed_in}
use Rattle.font_join.proofs.OutlineListLemmas.{filled_by}
use Rattle.font_join.proofs.union.Union.outline.Goals as goal

pub returns-then-g-glyph_count-clause-filled : goal.returns-then-g-glyph_count-clause-filled
returns-then-g-glyph_count-clause-filled g c =
    let u : Held = record {
      kind = c.self.inside.first.0;
      tables = c.self.inside.first.1;
      runs = c.self.inside.map;
      outlines = c.self.inside.outlines;
      own = c.self.inside.own;
    } in
    filled_by (λ b. b.now) c.at.result (listed_outline c.self.inside.outlines c.args.g) c.at.ensures.outline
    (λ b e. some-padded (content_in u) (closed_in u.kind (content_in u) c.self.invariant.whole c.self.invariant.spells)
    c.args.g b e)
