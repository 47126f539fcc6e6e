use Rattle.std.proofs.Common.{◌-◌}
use Rattle.font_map.specs.Mapping.{mapping_of}
use Rattle.commands.proofs.CodesLemmas.{Walks}
use Rattle.commands.proofs.mapped_codes.next_range.Given as goal

-- the runs so far are one range
abbrev pub invariant-loop-next : goal.invariant-loop-next
invariant-loop-next g l = Walks (mapping_of l.chart.0 l.chart.1) l.from l.range.first l.range.last

abbrev pub decreases-loop-next : goal.decreases-loop-next
decreases-loop-next g l = 0x110000 - l.range.last
