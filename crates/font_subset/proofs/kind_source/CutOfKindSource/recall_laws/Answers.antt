use Rattle.std.proofs.Common.{subst}
use Rattle.font_theory.specs.Content.{IsWritable, KeepsComponents}
use Rattle.font_subset.specs.KeptGlyphs.{written_content}
use Rattle.font_subset.proofs.KindSourceLemmas.{in_components, in_writable}
use Rattle.font_subset.proofs.SourceLemmas.{Held}
use Rattle.font_subset.proofs.kind_source.CutOfKindSource.recall_laws.Goals as goal

pub returns-clause-writable : goal.returns-clause-writable
returns-clause-writable g c =
    subst (λ (v : Held). IsWritable (written_content v)) c.self.view_is (in_writable c.self.inside.selection
    c.recall_accepted.ensures)

pub returns-clause-components : goal.returns-clause-components
returns-clause-components g c = subst (λ (v : Held). KeepsComponents (written_content v)) c.self.view_is
    (in_components c.self.inside.selection c.recall_accepted.ensures)
