use Rattle.std.proofs.Common.{map}
use Rattle.fontcut_c.specs.ManyCuts.{AcceptsTo}
use Rattle.fontcut_c.specs.Requests.{asked_by}
use Rattle.fontcut_c.proofs.many_cuts.check_requests.Given as goal

-- nothing that the requests so far ask is refused
abbrev pub invariant-loop-index : goal.invariant-loop-index
invariant-loop-index l = AcceptsTo l.font (map asked_by l.requests) l.index
