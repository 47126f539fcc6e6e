use Rattle.std.proofs.Common.{◌≡◌, ℕ, Bool, List, None, IsTrue, ◌↔◌, subst}
use Rattle.std.proofs.lemmas.Result.{MatchResult-weaker}
use Rattle.font_theory.specs.Content.{content}
use Rattle.font_theory.specs.Cut.{Writes}
use Rattle.font_theory.specs.Kinds.{fault_of, format_of}
use Rattle.font_theory.specs.declared.kinds.Kind.{Kind}
use Rattle.font_subset.specs.CutOfKind.{own_of}
use Rattle.font_subset.proofs.UnderLemmas.{is_cut_for_some, is_under}
use Rattle.font_subset.proofs.cut_forms.belongs.Goals as goal

abbrev Told : Kind × List ℕ → Bool → List ℕ → Kind → Type 0
Told font b file kind =
    IsTrue b ↔ Writes (format_of font.0) (content ((format_of font.0).font font.1) (own_of kind file)) file

pub returns-clause-exact : goal.returns-clause-exact
returns-clause-exact g c =
    let ok = subst (λ (kind : Kind). fault_of kind c.args.cut.now.1 ≡ None) c.requires c.recall_accepted.ensures in
    MatchResult-weaker c.is_cut_for_own.result c.is_cut_for_own.ensures.written (λ b e. is_under c.args.font.now.0 b
    c.args.cut.now.1 c.args.font.now.1 ok c.recall_accepted-2.ensures
    (subst (Told c.args.font.now b c.args.cut.now.1) c.requires e)) (λ e h. tt)

pub returns-clause-some_wanted : goal.returns-clause-some_wanted
returns-clause-some_wanted g c =
    let ok = subst (λ (kind : Kind). fault_of kind c.args.cut.now.1 ≡ None) c.requires c.recall_accepted.ensures in
    MatchResult-weaker c.is_cut_for_own.result c.is_cut_for_own.ensures.written
    (λ b e. is_cut_for_some c.args.font.now.0 b c.args.cut.now.1 c.args.font.now.1 ok c.recall_accepted-2.ensures
    (subst (Told c.args.font.now b c.args.cut.now.1) c.requires e)) (λ e h. tt)
