use Rattle.std.proofs.Common.{◌≡◌, ℕ, ◌-◌, List, ◌++◌}
use Rattle.std.specs.List.{flat_map}
use Rattle.std.specs.Fmt.{HasWritten, IsPlainFormatter}
use Rattle.font_map.specs.Mapping.{mapping_of}
use Rattle.commands.specs.Codes.{code_lines, code_ranges, range_line}
use Rattle.commands.proofs.mapped_codes.CodesDisplay.fmt.Given as goal

-- what is written, and the lines of the ranges that are left
abbrev pub invariant-loop-range : goal.invariant-loop-range
invariant-loop-range g l =
    IsPlainFormatter l.initial.f
    → (written : List ℕ)
    × (code_lines (mapping_of l.self.0.0 l.self.0.1) ≡ written
    ++ flat_map range_line (code_ranges (mapping_of l.self.0.0 l.self.0.1) l.from))
    × HasWritten g.W.Write.write_str_gives l.initial.f written l.f

abbrev pub decreases-loop-range : goal.decreases-loop-range
decreases-loop-range g l = 0x110000 - l.from
