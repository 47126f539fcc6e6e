-- How many records a directory has.
use Rattle.std.proofs.Common.{◌≡◌, ℕ, ◌<◌, List, filter, length, arith}
use Rattle.std.proofs.lemmas.List.FromFn.{length-map-range_with_len}
use Rattle.std.proofs.lemmas.List.Sums.{length-filter, count_by-le-length}
use Rattle.sfnt_bytes.specs.Directory.{entry_at, entries_from, is_dropped}
use Rattle.sfnt_bytes.specs.declared.records.Entry.{Entry}

pub length-entries_from : (file : List ℕ) (k n : ℕ) → length (entries_from file k n) ≡ n
length-entries_from file k n = length-map-range_with_len (entry_at file) k n

pub filter-is_dropped-few : (entries : List Entry) (most : ℕ) → length entries < most
    → length (filter is_dropped entries) < most
filter-is_dropped-few entries most few =
    let same = length-filter is_dropped entries in let less = count_by-le-length is_dropped entries in omega arith
