use Rattle.std.proofs.Common.{arith}
use Rattle.codes.proofs.RemovingLemmas.{wanted_removed}
use Rattle.codes.proofs.wanted.Wanted.remove.Goals as goal

pub returns-then-last-le-LAST_CODE-clause-removed : goal.returns-then-last-le-LAST_CODE-clause-removed
returns-then-last-le-LAST_CODE-clause-removed g c =
    wanted_removed _ _ _ _ (omega arith) c.self.invariant c.in_ok-remove_range.ensures.ok c.self.view_is
