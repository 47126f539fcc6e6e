use Rattle.std.proofs.Common.{ℕ, ◌<◌}
use Rattle.font_glyph.specs.Record.{IsRecord}
use Rattle.table_tests.specs.Records.{bytes_of, listed_record}
use Rattle.table_tests.proofs.records.Records.new.Given as goal

abbrev pub invariant-loop-g : goal.invariant-loop-g
invariant-loop-g l = (h : ℕ) → h < l.g → IsRecord l.count (listed_record (bytes_of l.records.items) h)
