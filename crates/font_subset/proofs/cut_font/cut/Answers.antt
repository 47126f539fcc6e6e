use Rattle.std.proofs.Common.{◌≡◌, ℕ, Bool, List, MatchResult, subst}
use Rattle.codes.specs.Wanted.{member}
use Rattle.font_theory.specs.Content.{Wanted, of_codes}
use Rattle.font_theory.specs.declared.kinds.Kind.{Kind}
use Rattle.font_subset.specs.CutOfFont.{IsCutRefusal}
use Rattle.font_subset.specs.CutOfKind.{opened_font_cut}
use Rattle.font_subset.proofs.cut_font.cut.Goals as goal

pub returns-clause-exact : goal.returns-clause-exact
returns-clause-exact g c =
    let W : Wanted = of_codes (member c.args.wanted.now) in
    subst (λ (f : Kind × (List ℕ × Bool)). MatchResult c.cut_of_kind.result (λ v. v.items ≡ opened_font_cut f W)
    (IsCutRefusal (opened_font_cut f W))) c.full.ensures c.cut_of_kind.ensures.exact
