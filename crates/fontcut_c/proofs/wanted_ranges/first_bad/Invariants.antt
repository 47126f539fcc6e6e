use Rattle.fontcut_c.specs.Cutting.{AreGoodTo}
use Rattle.fontcut_c.proofs.wanted_ranges.first_bad.Given as goal

-- no range so far is bad
abbrev pub invariant-loop-index : goal.invariant-loop-index
invariant-loop-index l = AreGoodTo l.ranges l.index
