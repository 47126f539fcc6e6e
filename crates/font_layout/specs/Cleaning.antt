-- Tables of layout without what varies, this project's own (OpenType 1.9, BASE, itemVarStoreOffset; GDEF,
-- itemVarStoreOffset; GPOS and GSUB, featureVariationsOffset): a cut has no `fvar`.
use Rattle.std.specs.Prelude.{ℕ, ◌+◌, nat_eq, nat_le, Bool, ◌&&◌, List, length, slice_set, if◌then◌else◌}
use Rattle.sfnt_bytes.specs.Number.{u16_at}
use Rattle.sfnt_bytes.specs.declared.tag.TheConstants.{BASE, GDEF, GSUB}

-- where the offset to what varies stands in the table of a slot
unfoldable pub field_at : ℕ → ℕ
field_at slot = if nat_eq slot BASE then 8 else if nat_eq slot GDEF then 14 else 10

-- the least minor version that has it
unfoldable pub field_since : ℕ → ℕ
field_since slot = if nat_eq slot GDEF then 3 else 1

-- a table has this field, whole: `BASE`, `GDEF`, `GPOS` and `GSUB` do
unfoldable pub has_field : ℕ → List ℕ → Bool
has_field slot table =
    (nat_le BASE slot && nat_le slot GSUB) && (nat_le (field_at slot + 4) (length table)
    && (nat_eq (u16_at table 0) 1 && nat_le (field_since slot) (u16_at table 2)))

-- a table with four zeros from a place on
abbrev pub with_zeros : ℕ → List ℕ → List ℕ
with_zeros at table =
    slice_set (slice_set (slice_set (slice_set table at 0) (at + 1) 0) (at + 2) 0) (at + 3) 0

-- the table of a slot of layout without what varies
unfoldable pub fixed : ℕ → List ℕ → List ℕ
fixed slot table = if has_field slot table then with_zeros (field_at slot) table else table
