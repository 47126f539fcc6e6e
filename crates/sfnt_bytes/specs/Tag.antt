-- The names of tables (OpenType 1.9, Organization of an OpenType Font, Table Tags).
use Rattle.std.specs.Prelude.{ℕ, Bool}
use Rattle.std.specs.List.{list_any}
use Rattle.std.specs.Str.{bytes_eq}
use Rattle.sfnt_bytes.specs.Number.{u32_at}
use Rattle.sfnt_bytes.specs.declared.tag.Tag.{Tag}
use Rattle.sfnt_bytes.specs.declared.tag.TheConstants.{KEPT}

-- two tags are the same
abbrev pub same_tag : Tag → Tag → Bool
same_tag a b = bytes_eq a.0 b.0

-- the tag as a number: less where the first byte that differs is less
abbrev pub tag_number : Tag → ℕ
tag_number tag = u32_at tag.0 0

-- every cut keeps the tag's table
unfoldable pub is_kept_tag : Tag → Bool
is_kept_tag tag = list_any (λ kept. same_tag kept tag) KEPT
