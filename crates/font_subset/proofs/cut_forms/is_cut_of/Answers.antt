use Rattle.std.proofs.Common.{◌↔◌, ℕ, IsTrue, List, subst}
use Rattle.std.specs.Result.{IfOk}
use Rattle.std.proofs.lemmas.Result.{MatchResult-weaker}
use Rattle.font_theory.specs.declared.kinds.Kind.{Kind}
use Rattle.font_subset.specs.CutOfKind.{IsCutIn}
use Rattle.font_subset.proofs.SourceLemmas.{full_accepted}
use Rattle.font_subset.proofs.UnderLemmas.{is_cut_of_codes}
use Rattle.font_subset.proofs.cut_forms.is_cut_of.Goals as goal

pub returns-clause-some_codes : goal.returns-clause-some_codes
returns-clause-some_codes g c =
    let told = subst (λ (f : Kind × List ℕ). IfOk c.belongs.result (λ b. IsTrue b ↔ IsCutIn f.0 f.1 c.args.cut.now))
    c.full-2.ensures
    (subst (λ (k : Kind × List ℕ). IfOk c.belongs.result (λ b. IsTrue b
    ↔ IsCutIn c.full-2.result.0 c.full-2.result.1 k.1)) c.full.ensures c.belongs.ensures.some_wanted) in
    let same = is_cut_of_codes c.args.font.now c.args.cut.now
    (full_accepted c.args.font.now c.recall_accepted.ensures) in
    MatchResult-weaker c.belongs.result told
    (λ b is. (λ t. same.0 (is.0 t), λ s. is.1 (same.1 s))) (λ e h. tt)
