-- Records in a list of vectors.
use Rattle.std.proofs.Common.{◌≡◌, ℕ, ◌<◌, List, [], length, get_or, sym, ap, ◌∙◌, Vec}
use Rattle.std.specs.declared.alloc.Global.{Global}
use Rattle.std.proofs.lemmas.List.{get_or-map, length-map}
use Rattle.table_tests.specs.Records.{bytes_of, listed_record}

pub record_in-read : (records : List (Vec ℕ Global)) (g : ℕ) (v : Vec ℕ Global) → g < length records
    → v ≡ get_or records g v → v.items ≡ listed_record (bytes_of records) g
record_in-read records g v low read = ap (λ (r : Vec ℕ Global). r.items) read
    ∙ sym (get_or-map (λ (r : Vec ℕ Global). r.items) records g v [] low)

pub length-bytes_of : (records : List (Vec ℕ Global)) → length (bytes_of records) ≡ length records
length-bytes_of records = length-map records (λ (r : Vec ℕ Global). r.items)
