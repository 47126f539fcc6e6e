use Rattle.std.proofs.Common.{◌≡◌, ◌+◌, ◌-◌, ◌≤◌, length}
use Rattle.font_map.specs.Mapping.{mapping_of}
use Rattle.commands.specs.Codes.{code_ranges}
use Rattle.fontcut_c.proofs.mapped.count_ranges.Given as goal

-- the ranges that were counted, and those that are left, are all; and each has a code of its own
abbrev pub invariant-loop-range : goal.invariant-loop-range
invariant-loop-range l =
    let m = mapping_of l.chart.0 l.chart.1 in
    (l.count + length (code_ranges m l.from) ≡ length (code_ranges m 0)) × (l.count ≤ l.from) × (l.from ≤ 0x110000)

abbrev pub decreases-loop-range : goal.decreases-loop-range
decreases-loop-range l = 0x110000 - l.from
