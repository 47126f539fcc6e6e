use Rattle.std.proofs.Common.{ℕ, List, length, map, refl, subst, sym}
use Rattle.font_subset.proofs.CutLemmas.{passed_on}
use Rattle.fontcut_c.specs.ManyCuts.{AcceptsAll}
use Rattle.fontcut_c.specs.Requests.{asked_by}
use Rattle.fontcut_c.proofs.CutListLemmas.{all_refused}
use Rattle.fontcut_c.proofs.many_cuts.cuts_to.Goals as goal

pub returns-in_err-font : goal.returns-in_err-font
returns-in_err-font c =
    let refused = all_refused c.args.kind c.args.file.now (map asked_by c.args.requests.now) (length c.args.out.now)
    c.in_err-font.field-0.0.0 c.in_err-font.field-0.0.1 c.in_err-font.ensures in
    passed_on _ _ c.from_residual.result _ c.from_residual.ensures.1 (refl, refl, refused)

pub write_cuts-requires-clause-all : goal.write_cuts-requires-clause-all
write_cuts-requires-clause-all c =
    subst (λ (f : List ℕ). AcceptsAll f (map asked_by c.args.requests.now)) (sym c.in_ok-font.ensures.0)
    c.in_ok-font.ensures.2
