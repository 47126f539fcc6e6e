use Rattle.std.proofs.Common.{◌≡◌, drop}
use Rattle.codes.specs.Wanted.{member}
use Rattle.fontcut_c.specs.Requests.{codes_of_ranges, with_ranges}
use Rattle.fontcut_c.proofs.wanted_ranges.added.Given as goal

-- what is in the set, and the ranges that are left, give the codes of all
abbrev pub invariant-loop-range : goal.invariant-loop-range
invariant-loop-range l = with_ranges (member l.wanted) (drop l.range-index l.ranges) ≡ codes_of_ranges l.ranges
