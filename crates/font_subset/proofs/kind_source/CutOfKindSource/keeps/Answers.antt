use Rattle.std.proofs.Common.{◌≡◌, ◌∙◌, sym, subst}
use Rattle.font_subset.specs.KeptGlyphs.{written_content}
use Rattle.std.specs.Option.{is_some}
use Rattle.font_subset.proofs.KindSourceLemmas.{in_keeps}
use Rattle.font_subset.proofs.SourceLemmas.{Held}
use Rattle.font_subset.proofs.kind_source.CutOfKindSource.keeps.Goals as goal

pub returns : goal.returns
returns g c =
    subst (λ (v : Held). c.keeps.result ≡ is_some ((written_content v).outline c.args.g)) c.self.view_is
    (c.keeps.ensures ∙ sym (in_keeps c.self.inside.selection c.recall_accepted.ensures c.args.g))
