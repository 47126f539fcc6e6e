use Rattle.std.proofs.Common.{ℕ, List, map, subst}
use Rattle.fontcut_c.specs.ManyCuts.{AcceptsAll}
use Rattle.fontcut_c.specs.Requests.{asked_by}
use Rattle.fontcut_c.proofs.many_cuts.opened_for_requests.Goals as goal

pub returns : goal.returns
returns c = (
  c.in-Ok.ensures.0,
  c.in-Ok.ensures.1,
  subst (λ (f : List ℕ). AcceptsAll f (map asked_by c.args.requests.now)) c.in-Ok.ensures.0
      c.in_ok-check_requests.ensures,
)
