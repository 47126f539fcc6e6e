use Rattle.std.proofs.Common.{◌≡◌, ℕ, List, None, subst, sym}
use Rattle.std.proofs.lemmas.Result.{MatchResult-weaker}
use Rattle.font_theory.specs.Content.{Content}
use Rattle.font_theory.specs.Cut.{Format, content_of_all}
use Rattle.font_theory.specs.Kinds.{format_of}
use Rattle.font_theory.proofs.KindLemmas.{kind_is}
use Rattle.font_join.specs.Inside.{IsAddRefusal, add_fault}
use Rattle.font_join.specs.Join.{IsJoin}
use Rattle.font_join.specs.KindInside.{HoldsIn, IsGrown}
use Rattle.font_join.specs.Union.{Held, content_in}
use Rattle.font_join.proofs.JoinLemmas.{font_accepted, second_refused}
use Rattle.font_subset.proofs.CutLemmas.{passed_on}
use Rattle.font_join.proofs.TurnLemmas.{joined_next, refused_next, too_large_next}
use Rattle.font_join.proofs.join_list.joined_with.Goals as goal

pub returns-in_err-next-clause-exact : goal.returns-in_err-next-clause-exact
returns-in_err-next-clause-exact g c = λ kind x h.
    passed_on _ _ c.from_residual.result _ c.from_residual.ensures.1
    (second_refused (format_of kind) x c.args.y.now c.in_err-next.field-0.0
    (font_accepted (kind_is kind) x h.holds.form.accepted) c.in_err-next.ensures)

pub returns-in_err-union-clause-exact : goal.returns-in_err-union-clause-exact
returns-in_err-union-clause-exact g c = λ kind x h.
    let R : Format = format_of kind in
    let error = c.in_err-union.field-0.0 in
    passed_on _ _ c.from_residual-in_err-union.result _ c.from_residual-in_err-union.ensures.1
    (refused_next (kind_is kind) (content_in c.args.all) x c.args.y.now h.holds c.in_ok-next.ensures.1 error
    (subst (λ (f : List ℕ). IsAddRefusal R (content_of_all R x) f error) c.in_ok-next.ensures.0
    (c.in_err-union.ensures.exact kind (content_of_all R x) h.kind_is h.holds.spells)))

pub returns-clause-exact : goal.returns-clause-exact
returns-clause-exact g c = λ kind x h.
    let R : Format = format_of kind in
    let D : Content = content_in c.in_ok-union.union in
    let added = subst (λ (f : List ℕ). IsGrown kind f (content_of_all R x) c.in_ok-union.union
    × (add_fault R (content_of_all R x) f ≡ None)) c.in_ok-next.ensures.0
    (c.in_ok-union.ensures.exact kind (content_of_all R x) h.kind_is h.holds.spells) in
    MatchResult-weaker c.sized.result c.sized.ensures
    (λ u w. subst (λ (v : Held). (z : List ℕ) × IsJoin R x c.args.y.now z × HoldsIn kind v z) (sym w.0)
    (let j = joined_next (kind_is kind) (content_in c.args.all) x c.args.y.now h.holds c.in_ok-next.ensures.1 D added.1
    added.0.spells w.1 in
    (j.0, j.1, record { kind_is = added.0.kind_is; holds = j.2 })))
    (λ e w. too_large_next (kind_is kind) (content_in c.args.all) x c.args.y.now h.holds c.in_ok-next.ensures.1 D
    added.1 added.0.spells e w)
