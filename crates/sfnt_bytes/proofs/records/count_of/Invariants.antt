use Rattle.std.proofs.Common.{◌≡◌, ◌≤◌, count_by}
use Rattle.sfnt_bytes.specs.Directory.{has_tag, records_of}
use Rattle.sfnt_bytes.proofs.RecordLemmas.{counted}
use Rattle.sfnt_bytes.proofs.records.count_of.Given as goal

-- the records of the tag are those that were counted and those that are left
abbrev pub invariant-loop-k : goal.invariant-loop-k
invariant-loop-k l = (count_by (has_tag l.tag) (records_of l.file) ≡ counted (has_tag l.tag) l.count l.file l.k)
    × (l.count ≤ l.k)
