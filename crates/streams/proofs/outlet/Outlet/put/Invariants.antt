-- What stands before `at` has gone out.
use Rattle.std.proofs.Common.{◌≡◌, ◌+◌, ◌-◌, ◌≤◌, false, length, take}
use Rattle.streams.specs.Outlet.{WentOut, broken_of, flushed_of, written_of}
use Rattle.streams.proofs.outlet.Outlet.put.Given as goal

abbrev pub invariant-loop-at : goal.invariant-loop-at
invariant-loop-at g l =
    (l.at ≤ length l.bytes) × (broken_of l.self ≡ false) × (written_of l.self ≡ written_of l.initial.self + l.at)
    × (flushed_of l.self ≡ false) × WentOut g.W.Write.contents l.initial.self l.self (take l.at l.bytes)

abbrev pub decreases-loop-at : goal.decreases-loop-at
decreases-loop-at g l = length l.bytes - l.at
