use Rattle.std.proofs.Common.{List, ℕ, MatchResult, map, sym, subst}
use Rattle.font_theory.specs.Kinds.{format_of, spelled_by}
use Rattle.font_theory.specs.declared.kinds.Kind.{Kind}
use Rattle.font_theory.proofs.KindLemmas.{kind_is}
use Rattle.font_join.specs.Inside.{IsFirstUnion}
use Rattle.font_join.specs.JoinList.{IsAllRefusal}
use Rattle.font_join.specs.KindInside.{IsUnitedIn}
use Rattle.font_join.specs.Union.{content_in}
use Rattle.font_join.proofs.TurnLemmas.{first_union, refused_at_first, refused_first}
use Rattle.font_join.proofs.join_list.union_of_all.Goals as goal

pub union_from-requires : goal.union_from-requires
union_from-requires g c =
    let bytes : List (List ℕ) = map g.F.AsSlice.items c.args.files.now in
    subst (λ (q : Kind). IsFirstUnion (format_of q) (spelled_by q) bytes (content_in c.in-Ok.one))
    (sym c.in-Ok.ensures.exact.0)
    (first_union (kind_is c.args.kind) bytes (content_in c.in-Ok.one) c.args.first.now c.requires.some c.requires.is
    c.in-Ok.ensures.exact.2 c.in-Ok.ensures.exact.1)

pub returns-in-Ok-clause-exact : goal.returns-in-Ok-clause-exact
returns-in-Ok-clause-exact g c =
    let bytes : List (List ℕ) = map g.F.AsSlice.items c.args.files.now in
    subst (λ (q : Kind). MatchResult c.union_from.result (IsUnitedIn q bytes) (IsAllRefusal (format_of q) bytes))
    c.in-Ok.ensures.exact.0 c.union_from.ensures.exact

pub returns-in-Err-clause-exact : goal.returns-in-Err-clause-exact
returns-in-Err-clause-exact g c =
    refused_at_first (format_of c.args.kind) (map g.F.AsSlice.items c.args.files.now) c.args.first.now c.in-Err.error
    c.requires.some c.requires.is
    (refused_first (kind_is c.args.kind) c.args.first.now c.in-Err.error c.requires.accepted c.in-Err.ensures.exact)
