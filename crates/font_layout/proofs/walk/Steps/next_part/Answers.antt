use Rattle.std.proofs.Common.{sym, ◌∙◌}
use Rattle.font_layout.proofs.WalkLemmas.{lookup_more}
use Rattle.font_layout.proofs.walk.Steps.next_part.Goals as goal

pub returns : goal.returns
returns c =
    sym c.self.view_is ∙ rw c.in_default.ensures.steps.0 (lookup_more _ _ _ _ _ _ _ c.if-self-eq0.false
    c.be16-offset.ensures c.in-Some-found.ensures.value c.of-self-inside.ensures)
