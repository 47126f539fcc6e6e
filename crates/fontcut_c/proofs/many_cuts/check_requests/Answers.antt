use Rattle.std.proofs.Common.{arith, below_more, map, subst}
use Rattle.std.proofs.lemmas.List.{length-map}
use Rattle.fontcut_c.specs.Cutting.{AcceptsRequest}
use Rattle.fontcut_c.specs.Requests.{RawRequest, asked_at, asked_by}
use Rattle.fontcut_c.proofs.RequestLemmas.{asked_is}
use Rattle.std.proofs.Common.{sym}
use Rattle.fontcut_c.proofs.many_cuts.check_requests.Goals as goal

pub loop-index-preserved : goal.loop-index-preserved
loop-index-preserved c =
    let all = map asked_by c.args.requests.now in
    below_more (λ k. AcceptsRequest c.args.font.now (asked_at all k)) c.loop-index.index c.loop-index.invariant
    (subst (λ (a : RawRequest). AcceptsRequest c.args.font.now a)
    (sym (asked_is c.args.requests.now c.loop-index.index _ c.loop-index-test.true)) c.in-Ok.ensures)

pub returns : goal.returns
returns c = λ k low.
    let many = length-map c.args.requests.now asked_by in
    c.loop-index.invariant k (omega (arith, low, many, c.loop-index-test.false))
