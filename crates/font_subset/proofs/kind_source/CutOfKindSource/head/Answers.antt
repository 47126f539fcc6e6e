use Rattle.std.proofs.Common.{◌≡◌, ◌∙◌, subst}
use Rattle.font_subset.specs.KeptGlyphs.{written_content}
use Rattle.font_theory.specs.Bytes.{cut_head}
use Rattle.font_subset.proofs.KindSourceLemmas.{in_head}
use Rattle.font_subset.proofs.SourceLemmas.{Held}
use Rattle.font_subset.proofs.kind_source.CutOfKindSource.head.Goals as goal

pub returns-clause-head : goal.returns-clause-head
returns-clause-head g c =
    subst (λ (v : Held). (written_content v).head ≡ cut_head c.head.result.now) c.self.view_is
    (in_head c.self.inside.selection c.recall_accepted.ensures ∙ c.head.ensures.head)
