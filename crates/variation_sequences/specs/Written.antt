-- The subtable that is written for pairs: each is a mapping of its own (OpenType 1.9, cmap, Format 14: Unicode
-- variation sequences).
use Rattle.std.specs.Prelude.{◌≡◌, ℕ, suc, ◌+◌, ◌*◌, ◌/◌, ◌%◌, ◌^◌, ◌<◌, ◌≤◌, ◌⊎◌, nat_eq, List, [], ◌∷◌, ◌++◌, length}
use Rattle.std.specs.Prelude.{if◌then◌else◌}
use Rattle.std.specs.List.{All, flat_map}
use Rattle.codes.specs.declared.code_points.TheConstants.{CODES}
use Rattle.variation_sequences.specs.declared.variant.Entry.{Entry}
use Rattle.variation_sequences.specs.declared.variant.Pair.{Pair}
use Rattle.variation_sequences.specs.declared.variant.Variant.TheVariants.{Glyph}

-- the bytes of numbers (OpenType 1.9, Data Types)
abbrev pub bytes_of_u16 : ℕ → List ℕ
bytes_of_u16 n = n / 256 ∷ n % 256 ∷ []

abbrev pub bytes_of_u24 : ℕ → List ℕ
bytes_of_u24 n = n / 65536 ∷ n / 256 % 256 ∷ n % 256 ∷ []

abbrev pub bytes_of_u32 : ℕ → List ℕ
bytes_of_u32 n = n / 16777216 ∷ n / 65536 % 256 ∷ n / 256 % 256 ∷ n % 256 ∷ []

-- pairs in front of which another stands: it joins the first of them that have its selector
abbrev pub with_pair : Pair → List (List Pair) → List (List Pair)
with_pair p [] = (p ∷ []) ∷ []
with_pair p ([] ∷ groups) = (p ∷ []) ∷ groups
with_pair p ((q ∷ qs) ∷ groups) =
    if nat_eq p.selector q.selector then (p ∷ q ∷ qs) ∷ groups else (p ∷ []) ∷ (q ∷ qs) ∷ groups

-- pairs by their selectors, as long as neighbours have the same one
abbrev pub grouped : List Pair → List (List Pair)
grouped [] = []
grouped (p ∷ ps) = with_pair p (grouped ps)

-- the selector of a group
abbrev pub selector_of : List Pair → ℕ
selector_of [] = 0
selector_of (p ∷ ps) = p.selector

-- UVSMapping: unicodeValue and glyphID
unfoldable pub mapping_bytes : Pair → List ℕ
mapping_bytes p = bytes_of_u24 p.code ++ bytes_of_u16 p.glyph

-- a non-default table: numUVSMappings, and the mappings
unfoldable pub mappings_bytes : List Pair → List ℕ
mappings_bytes group = bytes_of_u32 (length group) ++ flat_map mapping_bytes group

-- how many bytes it has
abbrev pub table_size : List Pair → ℕ
table_size group = 4 + 5 * length group

-- the selectors of groups, each with the place of its table, where the tables stand end to end from a place on
abbrev pub placed : ℕ → List (List Pair) → List (ℕ × ℕ)
placed at [] = []
placed at (group ∷ groups) = (selector_of group, at) ∷ placed (at + table_size group) groups

-- VariationSelector: varSelector, no default table, and the place of the non-default table
unfoldable pub record_bytes : ℕ × ℕ → List ℕ
record_bytes record_of = bytes_of_u24 record_of.0 ++ bytes_of_u32 0 ++ bytes_of_u32 record_of.1

-- how many bytes the subtable has
abbrev pub subtable_size : List Pair → ℕ
subtable_size pairs = 10 + 15 * length (grouped pairs) + 5 * length pairs

-- where the tables begin
abbrev pub tables_at : List Pair → ℕ
tables_at pairs = 10 + 11 * length (grouped pairs)

-- the subtable: format, length, numVarSelectorRecords; the records; the tables
unfoldable pub subtable_bytes : List Pair → List ℕ
subtable_bytes pairs =
    bytes_of_u16 14 ++ bytes_of_u32 (subtable_size pairs) ++ bytes_of_u32 (length (grouped pairs))
    ++ flat_map record_bytes (placed (tables_at pairs) (grouped pairs)) ++ flat_map mappings_bytes (grouped pairs)

-- selectors and codes that fit into three bytes
abbrev pub HaveSmallNumbers : List Pair → Type 0
HaveSmallNumbers = All (λ p. (p.selector < 2 ^ 24) × (p.code < 2 ^ 24))

-- a pair has a selector above another one, or the same and a code not below a bound
abbrev pub IsNotBelow : ℕ → ℕ → Pair → Type 0
IsNotBelow v c p = (v < p.selector) ⊎ ((v ≡ p.selector) × (c ≤ p.code))

-- selectors and codes in order, none above 0x10FFFF, and no pair twice; the first is not below a bound
abbrev pub AreOrdered : ℕ → ℕ → List Pair → Type 0
AreOrdered v c [] = Unit {0}
AreOrdered v c (p ∷ ps) =
    (p.selector < CODES) × (p.code < CODES) × IsNotBelow v c p × AreOrdered p.selector (suc p.code) ps

-- a pair as an entry
abbrev pub entry_of : Pair → Entry
entry_of p = record { selector = p.selector; code = p.code; variant = Glyph p.glyph }
