use Rattle.std.proofs.Common.{subst}
use Rattle.font_theory.specs.Content.{IsWritable, KeepsComponents}
use Rattle.font_subset.specs.KeptGlyphs.{selected}
use Rattle.font_subset.proofs.SourceLemmas.{Held, is_writable, keeps_components}
use Rattle.font_subset.proofs.selection.SelectionSource.recall_laws.Goals as goal

pub returns-clause-writable : goal.returns-clause-writable
returns-clause-writable g c =
    subst (λ (v : Held). IsWritable (selected v)) c.self.view_is (is_writable _ c.self.invariant.accepted)

pub returns-clause-components : goal.returns-clause-components
returns-clause-components g c = subst (λ (v : Held). KeepsComponents (selected v)) c.self.view_is
    (keeps_components _ c.self.invariant.accepted)
