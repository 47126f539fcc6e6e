use Rattle.std.proofs.Common.{◌≡◌, ℕ, Bool, IfOk, ap, subst, ◌∙◌}
use Rattle.codes.specs.Wanted.{member}
use Rattle.fontcut_c.specs.Requests.{codes_of_ranges}
use Rattle.fontcut_c.proofs.RangeLemmas.{wanted_by_sorted}
use Rattle.fontcut_c.proofs.wanted_ranges.wanted_of.Goals as goal

pub returns : goal.returns
returns c =
    let same = wanted_by_sorted c.args.ranges.now c.in_ok-sorted.sorted.items c.in_ok-sorted.ensures in
    subst (λ (w : ℕ → Bool). IfOk c.added-2.result (λ wanted. member wanted ≡ w))
    (ap codes_of_ranges c.deref.ensures.value ∙ same) c.added-2.ensures
