use Rattle.std.proofs.Common.{ap, ◌∙◌}
use Rattle.font_subset.specs.CutOfKind.{kind_form}
use Rattle.font_subset.proofs.ContentOfAllLemmas.{form_in_words}
use Rattle.font_subset.proofs.SourceLemmas.{Held}
use Rattle.font_subset.proofs.cut_forms.form_of_kind.Goals as goal

pub returns-clause-form : goal.returns-clause-form
returns-clause-form g c =
    form_in_words c.args.font.now.0 c.form.result c.args.font.now.1 c.recall_accepted.ensures
    (c.form.ensures ∙ ap (λ (v : Held). kind_form v.0 v.1.0) c.in_ok-source.ensures.source)
