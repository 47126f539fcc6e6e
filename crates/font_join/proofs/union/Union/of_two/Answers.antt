use Rattle.std.proofs.Common.{◌∙◌}
use Rattle.font_theory.specs.Cut.{content_of_all}
use Rattle.font_theory.specs.Kinds.{format_of}
use Rattle.font_theory.proofs.KindLemmas.{kind_is}
use Rattle.font_subset.proofs.CutLemmas.{passed_on}
use Rattle.font_join.specs.Union.{content_in}
use Rattle.font_join.proofs.MergeLemmas.{short_spelled}
use Rattle.font_join.proofs.TurnLemmas.{fault_of_two, refused_one, refused_two}
use Rattle.font_join.proofs.union.Union.of_two.Goals as goal

pub returns-in_err-one-clause-exact : goal.returns-in_err-one-clause-exact
returns-in_err-one-clause-exact g c =
    passed_on _ _ c.from_residual.result _ c.from_residual.ensures.1
    (refused_one (kind_is c.args.kind) c.args.x.now c.args.y.now c.in_err-one.field-0.0 c.in_err-one.ensures.exact)

pub add-requires : goal.add-requires
add-requires g c =
    short_spelled c.args.kind (content_in c.in_ok-one.one) c.args.x.now c.in_ok-one.ensures.exact.1
    c.in_ok-one.ensures.exact.2

pub returns-clause-exact : goal.returns-clause-exact
returns-clause-exact g c =
    let added = c.in_ok-both.ensures.exact c.args.kind (content_of_all (format_of c.args.kind) c.args.x.now)
    c.in_ok-one.ensures.exact.0 c.in_ok-one.ensures.exact.1 in (
      c.in_ok-settle.ensures.content ∙ added.0.spells.is,
      fault_of_two (kind_is c.args.kind) c.args.x.now c.args.y.now
          c.in_ok-one.ensures.exact.2 ∙ added.1,
    )

pub returns-in_err-both-clause-exact : goal.returns-in_err-both-clause-exact
returns-in_err-both-clause-exact g c =
    let K = content_of_all (format_of c.args.kind) c.args.x.now in
    passed_on _ _ c.from_residual-in_err-both.result _ c.from_residual-in_err-both.ensures.1
    (refused_two (kind_is c.args.kind) K c.args.x.now c.args.y.now c.in_err-both.field-0.0
    (fault_of_two (kind_is c.args.kind) c.args.x.now c.args.y.now c.in_ok-one.ensures.exact.2)
    (c.in_err-both.ensures.exact c.args.kind K c.in_ok-one.ensures.exact.0 c.in_ok-one.ensures.exact.1))
