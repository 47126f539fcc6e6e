use Rattle.std.proofs.Common.{◌≡◌, length, filter}
use Rattle.sfnt_bytes.specs.Directory.{is_dropped}
use Rattle.sfnt_bytes.proofs.records.DroppedIterator.next.Given as goal

abbrev pub invariant-loop-entry : goal.invariant-loop-entry
invariant-loop-entry l = filter is_dropped l.self-inside.records ≡ filter is_dropped l.initial.self-inside.records

abbrev pub decreases-loop-entry : goal.decreases-loop-entry
decreases-loop-entry l = length l.self-inside.records
