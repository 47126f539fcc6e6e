use Rattle.std.proofs.Common.{ℕ, List, ap, ◌∙◌}
use Rattle.std.proofs.lemmas.Result.{MatchResult-weaker}
use Rattle.font_theory.specs.declared.kinds.Kind.{Kind}
use Rattle.font_subset.specs.CutOfKind.{kind_form}
use Rattle.font_subset.proofs.ContentOfAllLemmas.{form_told}
use Rattle.font_subset.proofs.cut_forms.cut_form.Goals as goal

pub returns-clause-form : goal.returns-clause-form
returns-clause-form g c =
    MatchResult-weaker c.form_of_kind.result c.form_of_kind.ensures.exact (λ form e. form_told form c.args.font.now
    c.recall_accepted.ensures (e ∙ ap (λ (f : Kind × List ℕ). kind_form f.0 f.1) c.full-full.ensures)) (λ e h. tt)
