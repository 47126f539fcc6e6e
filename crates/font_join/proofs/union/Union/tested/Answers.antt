use Rattle.std.proofs.Common.{◌≡◌, Some, ap, sym, subst, ◌∙◌}
use Rattle.font_theory.specs.Content.{Content}
use Rattle.font_theory.specs.Cut.{Format, content_of_all}
use Rattle.font_theory.specs.Kinds.{format_of}
use Rattle.font_theory.proofs.CutLemmas.{is_cut-of}
use Rattle.font_theory.proofs.KindLemmas.{kind_is}
use Rattle.font_join.specs.Inside.{IsAddRefusal, early_difference}
use Rattle.font_join.specs.KindInside.{SpellsIn}
use Rattle.font_join.specs.Union.{Held, content_in}
use Rattle.font_join.proofs.AddFaultLemmas.{difference-early, difference_refused}
use Rattle.font_join.specs.declared.join_error.Which.TheVariants.{Second}
use Rattle.font_join.proofs.JoinLemmas.{form_whole}
use Rattle.font_join.proofs.UnionLemmas.{slot_below}
use Rattle.font_join.proofs.union.Union.tested.Goals as goal

pub refusal_of-requires : goal.refusal_of-requires
refusal_of-requires g c = λ slot e.
    let K : Content = c.self.invariant.whole in
    let L : Content = content_of_all (format_of c.args.self.now.kind) c.args.file.now.1 in
    let h : SpellsIn c.args.self.now.kind (content_in c.args.self.now) K =
    subst (λ (u : Held). SpellsIn u.kind (content_in u) K) c.self.view_is c.self.invariant.spells in
    let told : c.in_ok-difference.field-0 ≡ early_difference K L = c.in_ok-difference.ensures.difference K h in
    slot_below K L slot (difference-early K L c.in-Some.difference (sym told ∙ c.in-Some.is) ∙ ap Some e)

pub returns-in-Some-clause-exact : goal.returns-in-Some-clause-exact
returns-in-Some-clause-exact g c = λ K h.
    let R : Format = format_of c.args.self.now.kind in
    let y = c.args.file.now.1 in
    let L : Content = content_of_all R y in
    let told : c.in_ok-difference.field-0 ≡ early_difference K L = c.in_ok-difference.ensures.difference K h in
    subst (IsAddRefusal R K y) (sym c.refusal_of.ensures)
    (difference_refused R K y c.in-Some.difference (form_whole R Second y c.requires.form.accepted
    (is_cut-of R (kind_is c.args.self.now.kind).law y c.requires.form))
    (sym (difference-early K L c.in-Some.difference (sym told ∙ c.in-Some.is))))
