use Rattle.std.proofs.Common.{ap, option_copied, subst, ◌∙◌, sym}
use Rattle.font_subset.specs.Inside.{IsOpenedFor}
use Rattle.font_subset.proofs.SourceLemmas.{Held}
use Rattle.font_subset.proofs.selection.Selection.divided.Goals as goal

pub returns-in-None : goal.returns-in-None
returns-in-None g c =
    let full = subst (λ o. IsOpenedFor c.self.inside.kind c.self.inside.charted (option_copied o)) c.in-None.is
    c.self.invariant.opened_for in sym (ap (λ (v : Held). v.0) c.self.view_is) ∙ full
