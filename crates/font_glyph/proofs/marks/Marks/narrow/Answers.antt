use Rattle.std.proofs.Common.{◌∙◌, ap, List, Bool}
use Rattle.font_glyph.specs.Marks.{has}
use Rattle.font_glyph.proofs.VisitLemmas.{has-take}
use Rattle.font_glyph.proofs.marks.Marks.narrow.Goals as goal

pub returns-clause-same : goal.returns-clause-same
returns-clause-same g c = λ h low. has-take _ _ c.args.count c.truncate.ensures.items h low
    ∙ ap (λ (m : List Bool). has m h) c.self.view_is
