use Rattle.std.proofs.Common.{◌≡◌, map, refl}
use Rattle.std.proofs.lemmas.Result.{MatchResult-weaker}
use Rattle.font_join.specs.JoinList.{IsAllJoined, IsAllRefusal, IsForSizeOf}
use Rattle.font_join.specs.declared.join_error.JoinAllError.TheVariants.{At}
use Rattle.font_join.specs.declared.join_error.JoinError.TheVariants.{TableTooLong}
use Rattle.font_theory.specs.Kinds.{format_of}
use Rattle.font_theory.proofs.KindLemmas.{kind_is}
use Rattle.font_join.proofs.JoinLemmas.{refused_by}
use Rattle.font_join.proofs.JoinListLemmas.{clash_differs, cuts_refused_in_turn, laws_of_join, never_too_long_of_all}
use Rattle.font_join.proofs.JoinListLemmas.{small_joined}
use Rattle.font_join.proofs.LeastListLemmas.{least_of_all, true_refusal_of_all}
use Rattle.font_join.proofs.join_list.join_all_of_kind.Goals as goal

pub returns-clause-small : goal.returns-clause-small
returns-clause-small g c =
    let bytes = map (λ v. v.items) c.args.files.now in
    MatchResult-weaker c.join_in_turn.result c.join_in_turn.ensures.exact
    (λ z all. small_joined (kind_is c.args.kind) bytes
    z.items all) (λ e r. tt)

pub returns-clause-laws : goal.returns-clause-laws
returns-clause-laws g c =
    let bytes = map (λ v. v.items) c.args.files.now in
    laws_of_join (kind_is c.args.kind) bytes c.join_in_turn.result (λ z v. v.items ≡ z)
    (IsForSizeOf (format_of c.args.kind))
    (MatchResult-weaker c.join_in_turn.result c.join_in_turn.ensures.exact (λ z all. (z.items, all, refl))
    (λ e r F A are. cuts_refused_in_turn (kind_is c.args.kind) bytes F A are e r))

pub returns-clause-clash : goal.returns-clause-clash
returns-clause-clash g c =
    let bytes = map (λ v. v.items) c.args.files.now in
    MatchResult-weaker c.join_in_turn.result c.join_in_turn.ensures.exact (λ z all. tt)
    (λ e r forms t over few d. clash_differs (kind_is c.args.kind) bytes e r d forms t over few)

pub returns-clause-upper : goal.returns-clause-upper
returns-clause-upper g c =
    let bytes = map (λ v. v.items) c.args.files.now in
    MatchResult-weaker c.join_in_turn.result c.join_in_turn.ensures.exact
    (λ z all. least_of_all (kind_is c.args.kind) bytes z.items all) (λ e r. tt)

pub returns-clause-refused : goal.returns-clause-refused
returns-clause-refused g c =
    let bytes = map (λ v. v.items) c.args.files.now in
    MatchResult-weaker c.join_in_turn.result c.join_in_turn.ensures.exact (λ z all. tt)
    (λ e r. true_refusal_of_all (kind_is c.args.kind) bytes e r)

pub returns-clause-fits : goal.returns-clause-fits
returns-clause-fits g c = λ all step tag e.
    let R = format_of c.args.kind in
    let bytes = map (λ v. v.items) c.args.files.now in
    never_too_long_of_all R bytes all step tag
    (refused_by (λ z. IsAllJoined R bytes z.items) (IsAllRefusal R bytes) c.join_in_turn.result
    (At step (TableTooLong tag)) e c.join_in_turn.ensures.exact)
