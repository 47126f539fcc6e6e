-- This number of inlets has been read.
use Rattle.std.proofs.Common.{map}
use Rattle.commands.proofs.ReadEachLemmas.{AreRead}
use Rattle.commands.proofs.join.read_each.Given as goal

abbrev pub invariant-loop-k : goal.invariant-loop-k
invariant-loop-k g l =
    AreRead g.R.Read.remaining l.fn.inlets l.inlets (map (λ v. v.items) l.files.items) l.k
