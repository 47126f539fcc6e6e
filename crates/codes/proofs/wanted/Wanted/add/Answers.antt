use Rattle.std.proofs.Common.{arith}
use Rattle.codes.proofs.AddingLemmas.{wanted_added}
use Rattle.codes.proofs.wanted.Wanted.add.Goals as goal

pub returns-clause-added : goal.returns-clause-added
returns-clause-added g c = wanted_added _ _ _ _ (omega arith) c.self.invariant c.in_ok-add_range.ensures.ok
    c.self.view_is
