use Rattle.std.proofs.Common.{ℕ, List, subst, ◌∙◌}
use Rattle.std.proofs.lemmas.Result.{MatchResult-weaker}
use Rattle.font_theory.specs.Agreement.{both}
use Rattle.font_theory.specs.Cut.{content_of_all}
use Rattle.font_theory.specs.Kinds.{format_of}
use Rattle.font_join.specs.Join.{IsJoin, IsJoinRefusal}
use Rattle.font_join.specs.declared.join_error.JoinError.TheVariants.{TableTooLong}
use Rattle.font_theory.proofs.KindLemmas.{kind_is}
use Rattle.font_join.proofs.JoinLemmas.{cuts_joined, cuts_refused, least_upper, renewed_joined, renewed_refused}
use Rattle.font_join.proofs.JoinLemmas.{never_too_long, refused_by, self_joined, self_refused, small_join}
use Rattle.font_join.proofs.JoinLemmas.{true_refusal}
use Rattle.font_join.proofs.join_pair.join_of_kind.Goals as goal

pub returns-clause-cuts : goal.returns-clause-cuts
returns-clause-cuts g c = λ F A B accepted ex ey sx sy.
    MatchResult-weaker c.join_exactly.result c.join_exactly.ensures.exact
    (λ z. cuts_joined (kind_is c.args.kind) F A B c.args.x.now c.args.y.now ((kind_is c.args.kind).fault_is F
    ∙ accepted) ex ey sx sy z.items)
    (λ e. cuts_refused (kind_is c.args.kind) F A B c.args.x.now c.args.y.now ((kind_is c.args.kind).fault_is F
    ∙ accepted) ex ey sx sy e)

pub returns-clause-itself : goal.returns-clause-itself
returns-clause-itself g c = λ accepted form same.
    MatchResult-weaker c.join_exactly.result c.join_exactly.ensures.exact
    (λ z ok. self_joined (kind_is c.args.kind) c.args.x.now ((kind_is c.args.kind).fault_is c.args.x.now
    ∙ accepted) form z.items (subst (λ (y : List ℕ). IsJoin (format_of c.args.kind) c.args.x.now y z.items) same
    ok))
    (λ e r. self_refused (kind_is c.args.kind) c.args.x.now ((kind_is c.args.kind).fault_is c.args.x.now
    ∙ accepted) form e (subst (λ (y : List ℕ). IsJoinRefusal (format_of c.args.kind) c.args.x.now y e) same r))

pub returns-clause-renewal : goal.returns-clause-renewal
returns-clause-renewal g c = λ form same.
    MatchResult-weaker c.join_exactly.result c.join_exactly.ensures.exact
    (λ z ok. renewed_joined (kind_is c.args.kind) c.args.x.now form z.items
    (subst (λ (y : List ℕ). IsJoin (format_of c.args.kind) c.args.x.now y z.items) same ok))
    (λ e r. renewed_refused (kind_is c.args.kind) c.args.x.now form e
    (subst (λ (y : List ℕ). IsJoinRefusal (format_of c.args.kind) c.args.x.now y e) same r))

pub returns-clause-upper : goal.returns-clause-upper
returns-clause-upper g c =
    MatchResult-weaker c.join_exactly.result c.join_exactly.ensures.exact
    (λ z. least_upper (kind_is c.args.kind) c.args.x.now
    c.args.y.now z.items) (λ e r. tt)

pub returns-clause-small : goal.returns-clause-small
returns-clause-small g c =
    MatchResult-weaker c.join_exactly.result c.join_exactly.ensures.exact
    (λ z. small_join (kind_is c.args.kind) c.args.x.now
    c.args.y.now z.items) (λ e r. tt)

pub returns-clause-fits : goal.returns-clause-fits
returns-clause-fits g c = λ all tag e.
    let R = format_of c.args.kind in
    let x = c.args.x.now in
    let y = c.args.y.now in
    never_too_long R x y (all (both (content_of_all R x) (content_of_all R y))) tag
    (refused_by (λ z. IsJoin R x y z.items) (IsJoinRefusal R x y) c.join_exactly.result (TableTooLong tag) e
    c.join_exactly.ensures.exact)

pub returns-clause-refused : goal.returns-clause-refused
returns-clause-refused g c =
    MatchResult-weaker c.join_exactly.result c.join_exactly.ensures.exact (λ z r. tt)
    (λ e. true_refusal (kind_is c.args.kind)
    c.args.x.now c.args.y.now e)
