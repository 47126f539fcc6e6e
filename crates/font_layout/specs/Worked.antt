-- Small tables by hand, one for each lookup type (OpenType 1.9, GSUB), this project's own.
use Rattle.std.specs.Prelude.{◌≡◌, ℕ, true, false, List, [], ◌∷◌, slice_set, take}
use Rattle.sfnt_bytes.specs.declared.tag.TheConstants.{GSUB}
use Rattle.font_layout.specs.Cleaning.{fixed}
use Rattle.font_layout.specs.Layout.{is_bad_layout, leads_of, links_in}
use Rattle.font_layout.specs.declared.step.Link.{Link}

-- version 1.0 with a list of one lookup, of a type, with one subtable
abbrev pub worked_table : ℕ → List ℕ → List ℕ
worked_table kind subtable = 0 ∷ 1 ∷ 0 ∷ 0 ∷ 0 ∷ 0 ∷ 0 ∷ 0 ∷ 0 ∷ 10
    ∷ 0 ∷ 1 ∷ 0 ∷ 4
    ∷ 0 ∷ kind ∷ 0 ∷ 0 ∷ 0 ∷ 1 ∷ 0 ∷ 8 ∷ subtable

-- the same with no subtable
abbrev pub empty_lookup_of : ℕ → List ℕ
empty_lookup_of kind = 0 ∷ 1 ∷ 0 ∷ 0 ∷ 0 ∷ 0 ∷ 0 ∷ 0 ∷ 0 ∷ 10
    ∷ 0 ∷ 1 ∷ 0 ∷ 4
    ∷ 0 ∷ kind ∷ 0 ∷ 0 ∷ 0 ∷ 0 ∷ []

-- type 1, format 1: glyphs 5 and 2, each three before it, modulo 65536
abbrev pub shifted : List ℕ
shifted = 0 ∷ 1 ∷ 0 ∷ 6 ∷ 255 ∷ 253 ∷ 0 ∷ 1 ∷ 0 ∷ 2 ∷ 0 ∷ 5 ∷ 0 ∷ 2 ∷ []

-- type 1, format 2: glyphs 7 to 9, and two glyphs in their place
abbrev pub single : List ℕ
single = 0 ∷ 2 ∷ 0 ∷ 10 ∷ 0 ∷ 2 ∷ 0 ∷ 20 ∷ 0 ∷ 21 ∷ 0 ∷ 2 ∷ 0 ∷ 1 ∷ 0 ∷ 7 ∷ 0 ∷ 9 ∷ 0 ∷ 0 ∷ []

-- types 2 and 3: glyph 4, and a list of two glyphs
abbrev pub sequence : List ℕ
sequence = 0 ∷ 1 ∷ 0 ∷ 8 ∷ 0 ∷ 1 ∷ 0 ∷ 14 ∷ 0 ∷ 1 ∷ 0 ∷ 1 ∷ 0 ∷ 4 ∷ 0 ∷ 2 ∷ 0 ∷ 30 ∷ 0 ∷ 31 ∷ []

-- type 4: glyph 4, and a set of one ligature, 40, of it and glyph 6
abbrev pub ligature : List ℕ
ligature = 0 ∷ 1 ∷ 0 ∷ 8 ∷ 0 ∷ 1 ∷ 0 ∷ 14 ∷ 0 ∷ 1 ∷ 0 ∷ 1 ∷ 0 ∷ 4 ∷ 0 ∷ 1 ∷ 0 ∷ 4
    ∷ 0 ∷ 40 ∷ 0 ∷ 2 ∷ 0 ∷ 6 ∷ []

-- type 8: glyph 3, after one glyph that is looked at, and 50 in its place
abbrev pub reverse : List ℕ
reverse = 0 ∷ 1 ∷ 0 ∷ 14 ∷ 0 ∷ 1 ∷ 0 ∷ 14 ∷ 0 ∷ 0 ∷ 0 ∷ 1 ∷ 0 ∷ 50 ∷ 0 ∷ 1 ∷ 0 ∷ 1 ∷ 0 ∷ 3 ∷ []

-- type 7: a subtable of a type right behind
abbrev pub extended : ℕ → List ℕ → List ℕ
extended kind subtable = 0 ∷ 1 ∷ 0 ∷ kind ∷ 0 ∷ 0 ∷ 0 ∷ 8 ∷ subtable

-- version 1.1, whose list of lookups lies over the offset to what varies
abbrev pub overlaid : List ℕ
overlaid = slice_set (worked_table 4 ligature) 3 1

abbrev pub arrow : ℕ → ℕ → Link
arrow g h = record { from = g; to = h }

-- what these lead to
pub record WorkedLinks : Type 0 where
  pub shifted_by : links_in (worked_table 1 shifted) ≡ arrow 5 2 ∷ arrow 2 65535 ∷ []
  pub single_by : links_in (worked_table 1 single) ≡ arrow 7 20 ∷ arrow 8 21 ∷ []
  pub multiple_by : links_in (worked_table 2 sequence) ≡ arrow 4 30 ∷ arrow 4 31 ∷ []
  pub alternate_by : links_in (worked_table 3 sequence) ≡ arrow 4 30 ∷ arrow 4 31 ∷ []
  pub ligature_by : links_in (worked_table 4 ligature) ≡ arrow 4 40 ∷ []
  pub context_by : links_in (worked_table 5 []) ≡ []
  pub chained_by : links_in (worked_table 6 []) ≡ []
  pub extended_by : links_in (worked_table 7 (extended 4 ligature)) ≡ arrow 4 40 ∷ []
  pub reverse_by : links_in (worked_table 8 reverse) ≡ arrow 3 50 ∷ []
  pub overlaid_by : links_in overlaid ≡ arrow 4 40 ∷ []
  pub overlaid_fixed : links_in (fixed GSUB overlaid) ≡ []
  pub leads : leads_of (worked_table 2 sequence) 31 4 ≡ 30 ∷ []

-- which are accepted
pub record WorkedRefusals : Type 0 where
  pub shifted_in : is_bad_layout (worked_table 1 shifted) ≡ false
  pub ligature_in : is_bad_layout (worked_table 4 ligature) ≡ false
  pub ligature_cut : is_bad_layout (take 45 (worked_table 4 ligature)) ≡ true
  pub context_in : is_bad_layout (worked_table 5 []) ≡ false
  pub extended_in : is_bad_layout (worked_table 7 (extended 8 reverse)) ≡ false
  pub extended_twice : is_bad_layout (worked_table 7 (extended 7 (extended 8 reverse))) ≡ true
  pub extended_to_nothing : is_bad_layout (worked_table 7 (0 ∷ 1 ∷ 0 ∷ 6 ∷ 0 ∷ 0 ∷ 0 ∷ 0 ∷ [])) ≡ false
  pub extended_by_no_type : is_bad_layout (worked_table 7 (0 ∷ 1 ∷ 0 ∷ 9 ∷ 0 ∷ 0 ∷ 0 ∷ 0 ∷ [])) ≡ true
  pub unknown_type : is_bad_layout (worked_table 9 shifted) ≡ true
  pub empty_lookup : is_bad_layout (empty_lookup_of 4) ≡ false
  pub empty_unknown_lookup : is_bad_layout (empty_lookup_of 9) ≡ true
  pub unknown_format : is_bad_layout (worked_table 4 single) ≡ true
  pub no_list : is_bad_layout (0 ∷ 1 ∷ 0 ∷ 0 ∷ 0 ∷ 0 ∷ 0 ∷ 0 ∷ 0 ∷ 0 ∷ []) ≡ false
  pub no_header : is_bad_layout (0 ∷ 1 ∷ 0 ∷ 0 ∷ 0 ∷ 0 ∷ 0 ∷ 0 ∷ 0 ∷ []) ≡ true
