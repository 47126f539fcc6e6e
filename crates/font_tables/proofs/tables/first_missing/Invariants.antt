use Rattle.std.proofs.Common.{◌≡◌, find, map, drop}
use Rattle.sfnt_bytes.specs.Directory.{kept_tag}
use Rattle.font_tables.specs.Refusals.{is_missing}
use Rattle.font_tables.proofs.tables.first_missing.Given as goal

abbrev pub invariant-loop-slot : goal.invariant-loop-slot
invariant-loop-slot l = find (is_missing l.directory) (map kept_tag l.slots) ≡ find (is_missing l.directory)
    (map kept_tag (drop l.slot-index l.slots))
