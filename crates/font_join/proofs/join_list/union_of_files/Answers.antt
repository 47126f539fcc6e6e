use Rattle.std.proofs.Common.{map}
use Rattle.std.proofs.lemmas.Result.{MatchResult-weaker}
use Rattle.font_theory.specs.Kinds.{format_of}
use Rattle.font_join.specs.JoinList.{IsAllRefusal}
use Rattle.font_join.specs.KindInside.{IsUnitedIn}
use Rattle.font_join.specs.Union.{content_in}
use Rattle.font_join.specs.declared.join_error.JoinAllError.TheVariants.{At}
use Rattle.font_join.specs.declared.join_error.JoinError.TheVariants.{TableTooLong}
use Rattle.font_theory.proofs.KindLemmas.{kind_is}
use Rattle.font_join.proofs.TurnLemmas.{union_joined, union_small}
use Rattle.font_join.proofs.JoinLemmas.{refused_by}
use Rattle.font_join.proofs.JoinListLemmas.{never_too_long_of_all}
use Rattle.font_join.proofs.LeastListLemmas.{least_of_all, true_refusal_of_all}
use Rattle.font_join.proofs.join_list.union_of_files.Goals as goal

pub returns-clause-exact : goal.returns-clause-exact
returns-clause-exact g c =
    let bytes = map (λ f. f.now) c.args.files.now in
    MatchResult-weaker c.union_of_all.result c.union_of_all.ensures.exact
    (λ u h. union_joined (kind_is c.args.kind) bytes
    (content_in u) h.united) (λ e r. r)

pub returns-clause-small : goal.returns-clause-small
returns-clause-small g c =
    let bytes = map (λ f. f.now) c.args.files.now in
    MatchResult-weaker c.union_of_all.result c.union_of_all.ensures.exact
    (λ u h. union_small (kind_is c.args.kind) bytes
    (content_in u) h.united) (λ e r. tt)

pub returns-clause-upper : goal.returns-clause-upper
returns-clause-upper g c =
    let bytes = map (λ f. f.now) c.args.files.now in
    MatchResult-weaker c.union_of_all.result c.union_of_all.ensures.exact
    (λ u h. least_of_all (kind_is c.args.kind) bytes _
    (union_joined (kind_is c.args.kind) bytes (content_in u) h.united)) (λ e r. tt)

pub returns-clause-refused : goal.returns-clause-refused
returns-clause-refused g c =
    let bytes = map (λ f. f.now) c.args.files.now in
    MatchResult-weaker c.union_of_all.result c.union_of_all.ensures.exact (λ u h. tt)
    (λ e r. true_refusal_of_all (kind_is c.args.kind) bytes e r)

pub returns-clause-fits : goal.returns-clause-fits
returns-clause-fits g c = λ all step tag e.
    let R = format_of c.args.kind in
    let bytes = map (λ f. f.now) c.args.files.now in
    never_too_long_of_all R bytes all step tag
    (refused_by (IsUnitedIn c.args.kind bytes) (IsAllRefusal R bytes) c.union_of_all.result
    (At step (TableTooLong tag)) e c.union_of_all.ensures.exact)
