use Rattle.std.proofs.Common.{◌≡◌, true, refl, sym, ap, ◌∙◌}
use Rattle.font_theory.specs.Cut.{is_cut}
use Rattle.font_theory.specs.Kinds.{format_of}
use Rattle.font_theory.proofs.KindLemmas.{kind_is}
use Rattle.font_subset.proofs.ContentOfAllLemmas.{is_cut_tells, is_no_cut, is_some_cut}
use Rattle.font_subset.proofs.SourceLemmas.{Held}
use Rattle.font_join.proofs.JoinLemmas.{form_no_cut}
use Rattle.font_join.proofs.listed.Listed.new.Goals as goal

pub returns-in-Not-clause-exact : goal.returns-in-Not-clause-exact
returns-in-Not-clause-exact g c =
    form_no_cut (format_of c.args.font.now.0) c.args.which c.args.font.now.1 ((kind_is c.args.font.now.0).fault_is
    c.args.font.now.1 ∙ c.recall_accepted.ensures)
    (is_no_cut (format_of c.args.font.now.0) c.in_ok-selection.form c.args.font.now.1 c.in_ok-selection.ensures.form
    c.in-Not.is)

pub returns-clause-exact : goal.returns-clause-exact
returns-clause-exact g c =
    let t : true ≡ is_cut (format_of c.args.font.now.0) c.args.font.now.1 =
    sym (is_some_cut (format_of c.args.font.now.0) c.in_ok-selection.form c.args.font.now.1
    c.in_ok-selection.ensures.form c.in_default.not-Not) in (
      ap (λ (v : Held). (v.0, v.1.0)) c.in_ok-selection.ensures.selection,
      is_cut_tells c.args.font.now.0 true c.args.font.now.1 c.recall_accepted.ensures t refl,
    )
