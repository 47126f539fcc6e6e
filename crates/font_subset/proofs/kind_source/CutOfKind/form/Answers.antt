use Rattle.std.proofs.Common.{ap, ◌∙◌}
use Rattle.font_subset.proofs.FormLemmas.{form_of_held}
use Rattle.font_subset.proofs.SourceLemmas.{Held}
use Rattle.font_subset.proofs.kind_source.CutOfKind.form.Goals as goal

pub returns : goal.returns
returns g c =
    form_of_held c.kind.result c.args.self.now c.file.result.now c.form_of_file.result (c.kind.ensures.kind
    ∙ ap (λ (v : Held). v.0) c.self.view_is) c.requires c.file.ensures.file c.form_of_file.ensures
