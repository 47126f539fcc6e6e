use Rattle.std.proofs.Common.{refl}
use Rattle.font_theory.specs.Kinds.{format_of}
use Rattle.font_subset.proofs.CutLemmas.{passed_on}
use Rattle.fontcut_c.proofs.JoiningLemmas.{join_answered, rightly}
use Rattle.fontcut_c.proofs.StepLemmas.{names_file}
use Rattle.fontcut_c.proofs.joining.join_to.Goals as goal

pub returns-in_err-first-clause-exact : goal.returns-in_err-first-clause-exact
returns-in_err-first-clause-exact c = passed_on _ _ c.from_residual.result _ c.from_residual.ensures.1
    (refl, rightly c.args.kind _ _ (c.in_err-first.ensures.exact (format_of c.args.kind)))

pub returns-in_err-first-clause-named : goal.returns-in_err-first-clause-named
returns-in_err-first-clause-named c = passed_on _ _ c.from_residual.result _ c.from_residual.ensures.1
    (names_file c.args.kind _ c.in_err-first.field-0.0 (c.in_err-first.ensures.exact (format_of c.args.kind)))

pub returns-in_err-union-clause-exact : goal.returns-in_err-union-clause-exact
returns-in_err-union-clause-exact c = passed_on _ _ c.from_residual-in_err-union.result _
    c.from_residual-in_err-union.ensures.1
    (refl, rightly c.args.kind _ _ c.in_err-union.ensures.exact)

pub returns-clause-exact : goal.returns-clause-exact
returns-clause-exact c = join_answered c.args.kind _ _ c.in_ok-union.ensures.exact
    c.in_ok-union.ensures.upper c.args.out.now
    c.write_union.new.out c.write_union.result c.write_union.ensures.exact
