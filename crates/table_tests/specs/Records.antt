-- Records in a list, by number, this project's own.
use Rattle.std.specs.Prelude.{ℕ, ◌<◌, List, [], length, slice_index_or, map, Vec}
use Rattle.std.specs.declared.alloc.Global.{Global}
use Rattle.font_glyph.specs.Record.{IsRecord}

-- the bytes of each
abbrev pub bytes_of : List (Vec ℕ Global) → List (List ℕ)
bytes_of records = map (λ r. r.items) records

-- the record of a glyph
abbrev pub listed_record : List (List ℕ) → ℕ → List ℕ
listed_record records g = slice_index_or records g []

-- each has components that are among them
abbrev pub AreRecords : List (List ℕ) → Type 0
AreRecords records =
    (length records < 65536)
    × ((g : ℕ) → g < length records → IsRecord (length records) (listed_record records g))
