use Rattle.std.proofs.Common.{arith}
use Rattle.std.proofs.lemmas.List.{length-map}
use Rattle.font_theory.specs.Kinds.{format_of}
use Rattle.font_subset.proofs.CutLemmas.{passed_on}
use Rattle.font_join.proofs.join_list.join_in_turn.Goals as goal

pub returns-in_err-first-clause-exact : goal.returns-in_err-first-clause-exact
returns-in_err-first-clause-exact g c = passed_on _ _ c.from_residual.result _ c.from_residual.ensures.1
    (c.in_err-first.ensures.exact (format_of c.args.kind))

pub file_of_all-requires : goal.file_of_all-requires
file_of_all-requires g c = omega
    (arith, length-map c.args.files.now (λ v. v.items), c.in_ok-all.ensures.exact.united.some)

pub returns-clause-exact : goal.returns-clause-exact
returns-clause-exact g c = c.file_of_all.ensures.exact c.args.kind c.in_ok-all.ensures.exact
