use Rattle.std.proofs.Common.{subst}
use Rattle.font_theory.specs.Content.{IsWritable, KeepsComponents}
use Rattle.font_theory.proofs.HeldLemmas.{KeepsComponents-closed}
use Rattle.font_theory.proofs.WritableLemmas.{IsWritable-closed}
use Rattle.font_join.specs.Union.{Held, content_in}
use Rattle.font_join.proofs.MergeLemmas.{closed_in}
use Rattle.font_join.proofs.union.UnionSource.recall_laws.Goals as goal

pub returns-clause-writable : goal.returns-clause-writable
returns-clause-writable g c =
    subst (λ (u : Held). IsWritable (content_in u)) c.self.view_is
    (IsWritable-closed _ (closed_in c.self.inside.first.0 _ c.self.invariant.whole c.self.invariant.spells))

pub returns-clause-components : goal.returns-clause-components
returns-clause-components g c = subst (λ (u : Held). KeepsComponents (content_in u)) c.self.view_is
    (KeepsComponents-closed _ (closed_in c.self.inside.first.0 _ c.self.invariant.whole c.self.invariant.spells))
