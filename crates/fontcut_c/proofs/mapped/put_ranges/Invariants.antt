use Rattle.std.proofs.Common.{◌≡◌, ◌+◌, ◌-◌, ◌≤◌, ◌++◌, drop, length, take}
use Rattle.font_map.specs.Mapping.{mapping_of}
use Rattle.commands.specs.Codes.{code_ranges}
use Rattle.fontcut_c.proofs.mapped.put_ranges.Given as goal

-- the ranges that were written, those that are left, and what stands after them
abbrev pub invariant-loop-range : goal.invariant-loop-range
invariant-loop-range l =
    let m = mapping_of l.chart.0 l.chart.1 in
    let n = length (code_ranges m 0) in
    (take l.at l.out ++ code_ranges m l.from ≡ code_ranges m 0) × (l.at + length (code_ranges m l.from) ≡ n)
    × (drop n l.out ≡ drop n l.initial.out) × (length l.out ≡ length l.initial.out) × (l.from ≤ 0x110000)

abbrev pub decreases-loop-range : goal.decreases-loop-range
decreases-loop-range l = 0x110000 - l.from
