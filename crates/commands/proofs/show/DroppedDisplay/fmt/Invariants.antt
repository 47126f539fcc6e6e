use Rattle.std.proofs.Common.{◌≡◌, ℕ, List, ◌++◌}
use Rattle.std.specs.List.{flat_map}
use Rattle.std.specs.Fmt.{HasWritten, IsPlainFormatter}
use Rattle.commands.specs.Show.{dropped_line, dropped_text}
use Rattle.commands.proofs.show.DroppedDisplay.fmt.Given as goal

-- what is written, and the lines of what is left
abbrev pub invariant-loop-entry : goal.invariant-loop-entry
invariant-loop-entry g l =
    IsPlainFormatter l.initial.f → (written : List ℕ)
    × (dropped_text l.self.0.now ≡ written ++ flat_map dropped_line l.entry-iterator)
    × HasWritten g.W.Write.write_str_gives l.initial.f written l.f
