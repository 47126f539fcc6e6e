use Rattle.std.proofs.Common.{rules, ◌≡◌, ◌∙◌, false, true, sym}
use Rattle.fontcut_c.specs.Requests.{asked_by, is_like}
use Rattle.fontcut_c.proofs.RequestLemmas.{all_more, all_stop}
use Rattle.fontcut_c.proofs.requests.are_alike.Goals as goal

pub returns-then-not-is_alike : goal.returns-then-not-is_alike
returns-then-not-is_alike c =
    let no : c.is_alike.result ≡ false = search rules in
    sym (all_stop (is_like (asked_by c.args.first.now)) c.args.requests.now c.loop-index.index _
    c.loop-index-test.true (sym c.is_alike.ensures ∙ no))

pub loop-index-preserved : goal.loop-index-preserved
loop-index-preserved c =
    let yes : c.is_alike.result ≡ true = search rules in
    all_more (is_like (asked_by c.args.first.now)) c.args.requests.now c.loop-index.index _
    c.loop-index-test.true c.loop-index.invariant (sym c.is_alike.ensures ∙ yes)
