-- The subtables of a GSUB and their types (OpenType 1.9, GSUB and OpenType Layout Common Table Formats). A byte past
-- the end of the table counts as 0.
use Rattle.std.specs.Prelude.{◌≡◌, ℕ, ◌+◌, ◌*◌, ◌<◌, List}
use Rattle.sfnt_bytes.specs.Number.{u16_at, u32_at}

-- an offset from the beginning of a table leads to a place; NULL, 0, leads nowhere (Data Types, Offset16 and Offset32)
pub record LeadsTo (offset from place : ℕ) : Type 0 where
  pub some : 0 < offset
  pub sum : from + offset ≡ place

-- a subtable of lookup k of the list, with the lookupType (Header, LookupList table, Lookup table)
pub record IsListed (table : List ℕ) (kind at : ℕ) : Type 0 where
  pub list : ℕ
  pub lookup_list_offset : LeadsTo (u16_at table 8) 0 list
  pub k : ℕ
  pub lookup_count : k < u16_at table list
  pub lookup : ℕ
  pub lookup_offset : LeadsTo (u16_at table (list + 2 + 2 * k)) list lookup
  pub lookup_type : u16_at table lookup ≡ kind
  pub j : ℕ
  pub subtable_count : j < u16_at table (lookup + 4)
  pub subtable_offset : LeadsTo (u16_at table (lookup + 6 + 2 * j)) lookup at

-- a subtable of another type that one of type 7 leads to (Lookup type 7, Extension substitution format 1)
pub record IsExtension (table : List ℕ) (kind at : ℕ) : Type 0 where
  pub from : ℕ
  pub listed : IsListed table 7 from
  pub format : u16_at table from ≡ 1
  pub extension_lookup_type : u16_at table (from + 2) ≡ kind
  pub extension_offset : LeadsTo (u32_at table (from + 4)) from at

-- a subtable with a type
pub data IsSubtable (table : List ℕ) (kind at : ℕ) : Type 0 where
  plain : IsListed table kind at → IsSubtable table kind at
  extended : IsExtension table kind at → IsSubtable table kind at
