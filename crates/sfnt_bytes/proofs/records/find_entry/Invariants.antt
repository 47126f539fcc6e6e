use Rattle.std.proofs.Common.{◌≡◌, find}
use Rattle.sfnt_bytes.specs.Directory.{has_tag, records_of}
use Rattle.sfnt_bytes.proofs.RecordLemmas.{left}
use Rattle.sfnt_bytes.proofs.records.find_entry.Given as goal

-- the first record is the first of those that are left
abbrev pub invariant-loop-k : goal.invariant-loop-k
invariant-loop-k l = find (has_tag l.tag) (records_of l.file) ≡ find (has_tag l.tag) (left l.file l.k)
