use Rattle.std.proofs.Common.{◌≡◌, ℕ, List, Option, MatchOption, false, subst, true}
use Rattle.font_subset.proofs.CutLemmas.{passed_on}
use Rattle.font_theory.specs.Links.{is_unreadable_gsub}
use Rattle.font_subset.specs.Inside.{AreLinksOf}
use Rattle.font_subset.proofs.ClosingLemmas.{bad_links}
use Rattle.font_subset.proofs.ClosingRefusalLemmas.{closing_by_gsub, layout_kept}
use Rattle.font_subset.proofs.font_to_cut.FontToCut.with_links.Goals as goal

abbrev Read : List ℕ → Option (List (List ℕ)) → Type 0
Read gsub o = MatchOption o (is_unreadable_gsub gsub ≡ true) (λ listed. (is_unreadable_gsub gsub ≡ false)
    × AreLinksOf gsub listed)

pub returns-in_err-listed-clause-exact : goal.returns-in_err-listed-clause-exact
returns-in_err-listed-clause-exact g c =
    passed_on _ _ c.from_residual.result _ c.from_residual.ensures.1
    (layout_kept c.args.font.0 c.args.font.1 c.gsub_of.result.now c.gsub_of.ensures c.in_err-listed.ensures.there)

pub invariant_of-result : goal.invariant_of-result
invariant_of-result g c =
    let both = subst (Read c.gsub_of.result.now) c.in-Some.is c.in_ok-listed.ensures.links in (
      bad_links c.args.font.0 c.args.font.1 c.gsub_of.result.now false c.gsub_of.ensures both.0,
      subst (λ (b : List ℕ). AreLinksOf b c.in-Some.links) c.gsub_of.ensures both.1,
    )

pub returns-in-Some-clause-sound : goal.returns-in-Some-clause-sound
returns-in-Some-clause-sound g c =
    let both = subst (Read c.gsub_of.result.now) c.in-Some.is c.in_ok-listed.ensures.links in
    closing_by_gsub c.args.font.0 c.args.font.1 false c.recall_accepted.ensures
    (bad_links c.args.font.0 c.args.font.1 c.gsub_of.result.now false c.gsub_of.ensures both.0)

pub returns-clause-exact : goal.returns-clause-exact
returns-clause-exact g c =
    closing_by_gsub c.args.font.0 c.args.font.1 true c.recall_accepted.ensures
    (bad_links c.args.font.0 c.args.font.1 c.gsub_of.result.now true c.gsub_of.ensures
    (subst (Read c.gsub_of.result.now) c.in-None.is c.in_ok-listed.ensures.links))
