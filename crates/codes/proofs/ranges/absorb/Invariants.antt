use Rattle.std.proofs.Common.{◌≡◌, drop}
use Rattle.codes.specs.Inside.{absorbed}
use Rattle.codes.proofs.ranges.absorb.Given as goal

abbrev pub invariant-loop-j : goal.invariant-loop-j
invariant-loop-j l = absorbed l.fn.range (drop l.i l.ranges) ≡ absorbed l.whole (drop l.j l.ranges)
