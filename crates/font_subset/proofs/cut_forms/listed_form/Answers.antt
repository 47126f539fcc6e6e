use Rattle.std.proofs.Common.{ap, ◌∙◌}
use Rattle.font_subset.specs.CutOfKind.{kind_form}
use Rattle.font_subset.proofs.SourceLemmas.{Held}
use Rattle.font_subset.proofs.cut_forms.listed_form.Goals as goal

pub form-form-requires : goal.form-form-requires
form-form-requires g c = ap (λ (v : Held). v.1.1) (c.in_ok-source.ensures.source ∙ c.in_ok-selection.ensures.selection)

pub returns-clause-selection : goal.returns-clause-selection
returns-clause-selection g c = c.into_selection.ensures ∙ c.in_ok-source.ensures.source
    ∙ c.in_ok-selection.ensures.selection

pub returns-clause-form : goal.returns-clause-form
returns-clause-form g c = c.form-form.ensures ∙ ap (λ (v : Held). kind_form v.0 v.1.0) (c.in_ok-source.ensures.source
    ∙ c.in_ok-selection.ensures.selection)
