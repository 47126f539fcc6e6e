use Rattle.std.proofs.Common.{true, false, sym}
use Rattle.font_theory.specs.Kinds.{format_of}
use Rattle.font_subset.proofs.ContentOfAllLemmas.{is_current_in_words, is_not_now, is_now}
use Rattle.font_subset.proofs.cut_forms.is_of_kind.Goals as goal

pub returns-in-Current-clause-exact : goal.returns-in-Current-clause-exact
returns-in-Current-clause-exact g c =
    sym (is_now (format_of c.args.font.now.0) c.in_ok-form.form c.args.font.now.1 c.in_ok-form.ensures.exact
    c.in-Current.is)

pub returns-in-Current-clause-form : goal.returns-in-Current-clause-form
returns-in-Current-clause-form g c =
    is_current_in_words c.args.font.now.0 true c.args.font.now.1 c.recall_accepted.ensures
    (returns-in-Current-clause-exact g c)

pub returns-in_default-clause-exact : goal.returns-in_default-clause-exact
returns-in_default-clause-exact g c =
    sym (is_not_now (format_of c.args.font.now.0) c.in_ok-form.form c.args.font.now.1 c.in_ok-form.ensures.exact
    c.in_default.not-Current)

pub returns-in_default-clause-form : goal.returns-in_default-clause-form
returns-in_default-clause-form g c =
    is_current_in_words c.args.font.now.0 false c.args.font.now.1 c.recall_accepted.ensures
    (returns-in_default-clause-exact g c)
