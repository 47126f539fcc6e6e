use Rattle.std.proofs.Common.{◌≡◌, ℕ, ◌-◌, List, ◌++◌}
use Rattle.std.specs.List.{flat_map, range_with_len}
use Rattle.std.specs.Fmt.{HasWritten, IsPlainFormatter}
use Rattle.sfnt_bytes.specs.declared.tag.TheConstants.{SLOTS}
use Rattle.commands.specs.Show.{kept_line, kept_text}
use Rattle.commands.proofs.show.KeptDisplay.fmt.Given as goal

-- what is written, and the lines of the slots that are left
abbrev pub invariant-loop-slot : goal.invariant-loop-slot
invariant-loop-slot g l =
    IsPlainFormatter l.initial.f
    → (written : List ℕ)
    × (kept_text l.self.0.now ≡ written ++ flat_map (kept_line l.self.0.now)
    (range_with_len l.slot (SLOTS - l.slot))) × HasWritten g.W.Write.write_str_gives l.initial.f written l.f
