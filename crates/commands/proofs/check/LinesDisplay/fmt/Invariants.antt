use Rattle.std.proofs.Common.{take}
use Rattle.std.specs.List.{flat_map}
use Rattle.std.specs.Fmt.{HasWritten, IsPlainFormatter}
use Rattle.commands.specs.Check.{finding_line}
use Rattle.commands.proofs.check.LinesDisplay.fmt.Given as goal

-- the lines of the findings so far are written
abbrev pub invariant-loop-finding : goal.invariant-loop-finding
invariant-loop-finding g l =
    IsPlainFormatter l.initial.f
    → HasWritten g.W.Write.write_str_gives l.initial.f
    (flat_map finding_line (take l.finding-index l.finding-items)) l.f
