-- What varies in a colour table (OpenType 1.9, COLR, Header; OpenType Font Variations Common Table Formats,
-- DeltaSetIndexMap table; ItemVariationStore table).
use Rattle.std.specs.Prelude.{ℕ, zero, suc, ◌+◌, ◌*◌, ◌/◌, ◌%◌, nat_eq, nat_le, not, ◌&&◌, List, [], drop, length, max}
use Rattle.std.specs.Prelude.{slice_index, take, if◌then◌else◌}
use Rattle.sfnt_bytes.specs.Number.{u16_at, u32_at}

-- the bytes of a DeltaSetIndexMap and of an ItemVariationStore, each none where there is none that is read
pub record Store : Type 0 where
  pub index_map : List ℕ
  pub store : List ℕ

abbrev pub no_store : Store
no_store = record { index_map = []; store = [] }

-- how many bytes an entry of the map has, by entryFormat, MAP_ENTRY_SIZE_MASK
abbrev pub entry_size : List ℕ → ℕ
entry_size b = slice_index b 1 / 16 % 4 + 1

-- how many bytes a map has that begins bytes: format, entryFormat, mapCount, and the entries; 0 in another format
abbrev pub index_map_size : List ℕ → ℕ
index_map_size b =
    if nat_eq (slice_index b 0) 0 then 4 + entry_size b * u16_at b 2
    else if nat_eq (slice_index b 0) 1 then 6 + entry_size b * u32_at b 2 else 0

-- the map that begins bytes, if it is all there
unfoldable pub index_map_in : List ℕ → List ℕ
index_map_in b = if nat_le (index_map_size b) (length b) then take (index_map_size b) b else []

-- where the VariationRegionList of a store ends: axisCount, regionCount, and six bytes a region and axis
abbrev pub regions_end : List ℕ → ℕ
regions_end b = let at = u32_at b 2 in at + 4 + 6 * (u16_at b at * u16_at b (at + 2))

-- how many bytes a set of deltas has, by wordDeltaCount, with LONG_WORDS as its highest bit, and regionIndexCount
abbrev pub delta_set_size : ℕ → ℕ → ℕ
delta_set_size words regions = (1 + words / 32768) * (words % 32768 + regions)

-- where an ItemVariationData at a place ends: itemCount, wordDeltaCount, regionIndexCount, indices, and sets of deltas
abbrev pub data_end_at : List ℕ → ℕ → ℕ
data_end_at b at =
    at + 6 + 2 * u16_at b (at + 4) + u16_at b at * delta_set_size (u16_at b (at + 2)) (u16_at b (at + 4))

-- where the one with an index ends; 0 where its offset is 0
abbrev pub data_end : List ℕ → ℕ → ℕ
data_end b k = let at = u32_at b (8 + 4 * k) in if nat_eq at 0 then 0 else data_end_at b at

-- where the last of so many ends
abbrev pub data_ends : List ℕ → ℕ → ℕ
data_ends b zero = 0
data_ends b (suc k) = max (data_ends b k) (data_end b k)

-- where the last piece of a store ends: its offsets, its regions, and its data, of which there are
-- itemVariationDataCount
abbrev pub store_end : List ℕ → ℕ
store_end b = max (max (8 + 4 * u16_at b 6) (regions_end b)) (data_ends b (u16_at b 6))

-- the store of format 1 that begins bytes, to the end of its last piece, if that is all there
unfoldable pub store_in : List ℕ → List ℕ
store_in b =
    if nat_eq (u16_at b 0) 1 && not (nat_eq (u32_at b 2) 0) && nat_le (store_end b) (length b)
    then take (store_end b) b else []

-- varIndexMapOffset
unfoldable pub index_map_offset : List ℕ → ℕ
index_map_offset t = u32_at t 26

-- itemVariationStoreOffset
unfoldable pub store_offset : List ℕ → ℕ
store_offset t = u32_at t 30

-- what varies in a table
unfoldable pub store_of : List ℕ → Store
store_of t = record {
  index_map = if nat_eq (index_map_offset t) 0 then [] else index_map_in (drop (index_map_offset t) t);
  store = if nat_eq (store_offset t) 0 then [] else store_in (drop (store_offset t) t);
}
