use Rattle.std.proofs.Common.{◌≡◌, ◌<◌, ◌∙◌, ◌∷◌, [], arith, subst, sym}
use Rattle.divided_tables.specs.OpenMetrics.{OpenMetrics, own_metrics}
use Rattle.divided_tables.proofs.FilledLemmas.{entry_room}
use Rattle.divided_tables.proofs.FourLemmas.{no_bytes}
use Rattle.divided_tables.proofs.metrics.Metrics.four.Goals as goal

pub returns-then-self-eq0 : goal.returns-then-self-eq0
returns-then-self-eq0 g c =
    c.none.ensures
    ∙ subst (λ (m : OpenMetrics). 0 ∷ 0 ∷ 0 ∷ 0 ∷ [] ≡ own_metrics m c.args.g) c.self.view_is
    (no_bytes c.self.inside.pairs c.self.inside.bytes.now c.args.g c.if-self-eq0.true)

pub four_of-requires-clause-room : goal.four_of-requires-clause-room
four_of-requires-clause-room g c =
    let low : c.args.g < c.self.inside.count = subst (λ (m : OpenMetrics). c.args.g < m.count) (sym c.self.view_is)
    c.requires in
    entry_room c.self.inside.pairs c.self.inside.count c.from.result c.self.inside.bytes.now
    (omega (arith, c.if-self-eq0.false)) c.self.invariant.few (omega (arith, low, c.from.ensures))
    (c.self.invariant.room (omega (arith, c.if-self-eq0.false)))
