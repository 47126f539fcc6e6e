-- A font without some of its tables (OpenType 1.9, Organization of an OpenType Font, Table Directory): the file in
-- whose directory no record names one of them.
use Rattle.std.specs.Prelude.{ℕ, ◌+◌, ◌*◌, ◌++◌, Bool, List, if◌then◌else◌, codes, length, slice_range}
use Rattle.std.specs.List.{flat_map, list_any, range_with_len}
use Rattle.sfnt_bytes.specs.Directory.{table_count, tag_at}
use Rattle.sfnt_bytes.specs.Tag.{same_tag}
use Rattle.sfnt_bytes.specs.declared.tag.Tag.{Tag}

-- the tag is one of some tags
abbrev pub is_tag_among : List Tag → Tag → Bool
is_tag_among tags tag = list_any (λ gone. same_tag gone tag) tags

-- record k, in which four blanks stand for a tag that goes
unfoldable pub record_without : List Tag → List ℕ → ℕ → List ℕ
record_without tags file k = let at = 12 + 16 * k in
    (if is_tag_among tags (tag_at file at) then codes "    " else slice_range file at (at + 4))
    ++ slice_range file (at + 4) (at + 16)

-- the file with all its records written so
unfoldable pub without_tables : List Tag → List ℕ → List ℕ
without_tables tags file = let count = table_count file in
    slice_range file 0 12 ++ flat_map (record_without tags file) (range_with_len 0 count)
    ++ slice_range file (12 + 16 * count) (length file)
