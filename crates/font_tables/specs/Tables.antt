-- The tables that every font must have (OpenType 1.9, Organization of an OpenType Font, Required Tables).
use Rattle.std.specs.Prelude.{ℕ, List, [], ◌∷◌, codes, unwrap_or}
use Rattle.sfnt_bytes.specs.Directory.{table_of}
use Rattle.sfnt_bytes.specs.declared.tag.Tag.{Tag}

-- the tag of four letters
abbrev pub named : List ℕ → Tag
named letters = record { 0 = letters }

unfoldable pub cmap_tag : Tag
cmap_tag = named (codes "cmap")

unfoldable pub glyf_tag : Tag
glyf_tag = named (codes "glyf")

unfoldable pub head_tag : Tag
head_tag = named (codes "head")

unfoldable pub hhea_tag : Tag
hhea_tag = named (codes "hhea")

unfoldable pub hmtx_tag : Tag
hmtx_tag = named (codes "hmtx")

unfoldable pub loca_tag : Tag
loca_tag = named (codes "loca")

unfoldable pub maxp_tag : Tag
maxp_tag = named (codes "maxp")

-- the tags of the required tables, ascending
unfoldable pub required_tags : List Tag
required_tags = cmap_tag ∷ glyf_tag ∷ head_tag ∷ hhea_tag ∷ hmtx_tag ∷ loca_tag ∷ maxp_tag ∷ []

-- the table of a tag, empty where there is none
unfoldable pub table_or_empty : List ℕ → Tag → List ℕ
table_or_empty file tag = unwrap_or (table_of file tag) []

abbrev pub glyf_of : List ℕ → List ℕ
glyf_of file = table_or_empty file glyf_tag

abbrev pub head_of : List ℕ → List ℕ
head_of file = table_or_empty file head_tag

abbrev pub hhea_of : List ℕ → List ℕ
hhea_of file = table_or_empty file hhea_tag

abbrev pub hmtx_of : List ℕ → List ℕ
hmtx_of file = table_or_empty file hmtx_tag

abbrev pub loca_of : List ℕ → List ℕ
loca_of file = table_or_empty file loca_tag

abbrev pub maxp_of : List ℕ → List ℕ
maxp_of file = table_or_empty file maxp_tag
