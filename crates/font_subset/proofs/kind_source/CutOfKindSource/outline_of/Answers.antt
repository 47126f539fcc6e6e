use Rattle.std.proofs.Common.{◌≡◌, Some, subst}
use Rattle.std.specs.Option.{IsSome}
use Rattle.font_theory.specs.Bytes.{padded}
use Rattle.font_subset.specs.KeptGlyphs.{written_content}
use Rattle.font_subset.proofs.KindSourceLemmas.{in_outline_at}
use Rattle.font_subset.proofs.SourceLemmas.{Held}
use Rattle.font_subset.proofs.kind_source.CutOfKindSource.outline_of.Goals as goal

pub returns-clause-outline : goal.returns-clause-outline
returns-clause-outline g c =
    subst (λ (v : Held). IsSome ((written_content v).outline c.args.g) → (written_content v).outline c.args.g
    ≡ Some (padded c.outline_of.result.now)) c.self.view_is
    (in_outline_at c.self.inside.selection c.recall_accepted.ensures c.args.g (padded c.outline_of.result.now)
    c.outline_of.ensures.outline)
