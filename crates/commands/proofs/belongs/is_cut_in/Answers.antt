use Rattle.std.proofs.Common.{◌≡◌, ◌↔◌, ◌∙◌, ℕ, IsTrue, List, None, ap, subst, sym}
use Rattle.font_theory.specs.declared.kinds.Kind.{Kind}
use Rattle.font_theory.specs.Kinds.{fault_of}
use Rattle.font_subset.specs.CutOfKind.{IsCutIn}
use Rattle.font_subset.proofs.CutLemmas.{passed_on}
use Rattle.font_join.specs.declared.join_error.Which.TheVariants.{First, Second}
use Rattle.commands.specs.Belongs.{IsUnopened}
use Rattle.commands.proofs.BelongsLemmas.{first_unopened, second_unopened}
use Rattle.commands.proofs.belongs.is_cut_in.Goals as goal

pub returns-in_err-first-clause-exact : goal.returns-in_err-first-clause-exact
returns-in_err-first-clause-exact g c =
    passed_on _ _ c.from_residual.result _ c.from_residual.ensures.1 (first_unopened c.args.kind c.args.cut.now
    c.args.font.now c.in_err-first.field-0.0 (c.in_err-first.ensures.exact c.args.kind))

pub returns-in_err-opened_cut-clause-exact : goal.returns-in_err-opened_cut-clause-exact
returns-in_err-opened_cut-clause-exact g c =
    let error = c.in_err-opened_cut.field-0.0 in
    passed_on _ _ c.from_residual-in_err-opened_cut.result _ c.from_residual-in_err-opened_cut.ensures.1
    (first_unopened c.args.kind c.args.cut.now c.args.font.now error
    (subst (λ (f : List ℕ). IsUnopened c.args.kind First f error) c.in_ok-first.ensures.exact
    c.in_err-opened_cut.ensures.exact))

pub returns-in_err-second-clause-exact : goal.returns-in_err-second-clause-exact
returns-in_err-second-clause-exact g c =
    let accepted = subst (λ (f : List ℕ). fault_of c.args.kind f ≡ None) c.in_ok-first.ensures.exact
    c.in_ok-opened_cut.ensures.exact.1 in
    passed_on _ _ c.from_residual-in_err-second.result _ c.from_residual-in_err-second.ensures.1
    (second_unopened c.args.kind c.args.cut.now c.args.font.now c.in_err-second.field-0.0 accepted
    (c.in_err-second.ensures.exact c.args.kind))

pub returns-in_err-opened_font-clause-exact : goal.returns-in_err-opened_font-clause-exact
returns-in_err-opened_font-clause-exact g c =
    let accepted = subst (λ (f : List ℕ). fault_of c.args.kind f ≡ None) c.in_ok-first.ensures.exact
    c.in_ok-opened_cut.ensures.exact.1 in
    let error = c.in_err-opened_font.field-0.0 in
    passed_on _ _ c.from_residual-in_err-opened_font.result _ c.from_residual-in_err-opened_font.ensures.1
    (second_unopened c.args.kind c.args.cut.now c.args.font.now error accepted
    (subst (λ (f : List ℕ). IsUnopened c.args.kind Second f error) c.in_ok-second.ensures.exact
    c.in_err-opened_font.ensures.exact))

pub belongs-requires : goal.belongs-requires
belongs-requires g c =
    ap (λ (v : Kind × List ℕ). v.0) c.in_ok-opened_cut.ensures.exact.0
    ∙ sym (ap (λ (v : Kind × List ℕ). v.0) c.in_ok-opened_font.ensures.exact.0)

pub returns-clause-exact : goal.returns-clause-exact
returns-clause-exact g c =
    let cut : c.in_ok-opened_cut.opened_cut ≡ (c.args.kind, c.args.cut.now) =
    c.in_ok-opened_cut.ensures.exact.0 ∙ ap (λ (f : List ℕ). (c.args.kind, f)) c.in_ok-first.ensures.exact in
    let font : c.in_ok-opened_font.opened_font ≡ (c.args.kind, c.args.font.now) =
    c.in_ok-opened_font.ensures.exact.0 ∙ ap (λ (f : List ℕ). (c.args.kind, f)) c.in_ok-second.ensures.exact in
    record {
      cut_accepted = subst (λ (f : List ℕ). fault_of c.args.kind f ≡ None) c.in_ok-first.ensures.exact
          c.in_ok-opened_cut.ensures.exact.1;
      font_accepted = subst (λ (f : List ℕ). fault_of c.args.kind f ≡ None) c.in_ok-second.ensures.exact
          c.in_ok-opened_font.ensures.exact.1;
      is = subst (λ (v : Kind × List ℕ). IsTrue c.in_ok-belongs.field-0 ↔ IsCutIn c.args.kind c.args.font.now v.1) cut
          (subst (λ (v : Kind × List ℕ). IsTrue c.in_ok-belongs.field-0
          ↔ IsCutIn v.0 v.1 c.in_ok-opened_cut.opened_cut.1) font c.in_ok-belongs.ensures.some_wanted);
    }
