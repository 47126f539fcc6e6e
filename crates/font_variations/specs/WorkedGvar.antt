-- Small tables by hand (OpenType 1.9, gvar: Glyph Variations Table), this project's own.
use Rattle.std.specs.Prelude.{◌≡◌, ℕ, zero, suc, true, false, List, [], ◌∷◌, None, Some, slice_set, take}
use Rattle.font_variations.specs.Gvar.{data_of, front_of, is_bad_variations, shared_tuples_of}
use Rattle.font_variations.specs.MadeGvar.{gvar_bytes}

-- `fvar` up to axisCount: version 1.0, axesArrayOffset, reserved, and one axis
abbrev pub one_axis : List ℕ
one_axis = 0 ∷ 1 ∷ 0 ∷ 0 ∷ 0 ∷ 16 ∷ 0 ∷ 2 ∷ 0 ∷ 1 ∷ []

-- version 1.0, axisCount 1, sharedTupleCount 1
abbrev pub one_tuple : List ℕ
one_tuple = 0 ∷ 1 ∷ 0 ∷ 0 ∷ 0 ∷ 1 ∷ 0 ∷ 1 ∷ []

-- the data of two glyphs
abbrev pub two_glyphs : ℕ → List ℕ
two_glyphs zero = 11 ∷ 12 ∷ []
two_glyphs (suc g) = 21 ∷ 22 ∷ 23 ∷ 24 ∷ []

-- version, axisCount, sharedTupleCount; sharedTuplesOffset 26, glyphCount 2, flags 0,
-- glyphVariationDataArrayOffset 28; the offsets 0, 2 and 6, divided by 2; one tuple; the data
abbrev pub short_table : List ℕ
short_table = 0 ∷ 1 ∷ 0 ∷ 0 ∷ 0 ∷ 1 ∷ 0 ∷ 1 ∷ 0 ∷ 0 ∷ 0 ∷ 26 ∷ 0 ∷ 2 ∷ 0 ∷ 0
    ∷ 0 ∷ 0 ∷ 0 ∷ 28
    ∷ 0 ∷ 0 ∷ 0 ∷ 1 ∷ 0 ∷ 3
    ∷ 64 ∷ 0
    ∷ 11 ∷ 12 ∷ 21 ∷ 22 ∷ 23 ∷ 24 ∷ []

-- the same made anew: sharedTuplesOffset 32, glyphCount 2, flags 1, glyphVariationDataArrayOffset 34
abbrev pub long_table : List ℕ
long_table = 0 ∷ 1 ∷ 0 ∷ 0 ∷ 0 ∷ 1 ∷ 0 ∷ 1 ∷ 0 ∷ 0 ∷ 0 ∷ 32 ∷ 0 ∷ 2 ∷ 0 ∷ 1
    ∷ 0 ∷ 0 ∷ 0 ∷ 34
    ∷ 0 ∷ 0 ∷ 0 ∷ 0 ∷ 0 ∷ 0 ∷ 0 ∷ 2 ∷ 0 ∷ 0 ∷ 0 ∷ 6
    ∷ 64 ∷ 0
    ∷ 11 ∷ 12 ∷ 21 ∷ 22 ∷ 23 ∷ 24 ∷ []

-- no shared tuples, so that their offset is nothing; one glyph, whose data stand over the header: the array begins
-- at 0, and the long offsets are 3 and 6; then a byte of nothing
abbrev pub strange_table : List ℕ
strange_table = 0 ∷ 1 ∷ 0 ∷ 0 ∷ 0 ∷ 1 ∷ 0 ∷ 0 ∷ 255 ∷ 255 ∷ 255 ∷ 255 ∷ 0 ∷ 1 ∷ 0 ∷ 1
    ∷ 0 ∷ 0 ∷ 0 ∷ 0
    ∷ 0 ∷ 0 ∷ 0 ∷ 3 ∷ 0 ∷ 0 ∷ 0 ∷ 6
    ∷ 9 ∷ []

-- what they have
pub record WorkedGvar : Type 0 where
  pub short_accepted : is_bad_variations short_table (Some one_axis) 2 ≡ false
  pub short_front : front_of short_table ≡ one_tuple
  pub short_tuples : shared_tuples_of short_table ≡ 64 ∷ 0 ∷ []
  pub short_first : data_of short_table 0 ≡ 11 ∷ 12 ∷ []
  pub short_second : data_of short_table 1 ≡ 21 ∷ 22 ∷ 23 ∷ 24 ∷ []
  pub long_accepted : is_bad_variations long_table (Some one_axis) 2 ≡ false
  pub long_tuples : shared_tuples_of long_table ≡ 64 ∷ 0 ∷ []
  pub long_first : data_of long_table 0 ≡ 11 ∷ 12 ∷ []
  pub long_second : data_of long_table 1 ≡ 21 ∷ 22 ∷ 23 ∷ 24 ∷ []
  pub long_made : gvar_bytes one_tuple (64 ∷ 0 ∷ []) two_glyphs 2 ≡ long_table
  pub strange_accepted : is_bad_variations strange_table (Some one_axis) 1 ≡ false
  pub strange_tuples : shared_tuples_of strange_table ≡ []
  pub strange_data : data_of strange_table 0 ≡ 0 ∷ 0 ∷ 1 ∷ []

-- the first table with another byte at a place
abbrev pub changed : ℕ → ℕ → List ℕ
changed at byte = slice_set short_table at byte

-- which are refused
pub record WorkedBadGvar : Type 0 where
  pub cut_header : is_bad_variations (take 19 short_table) (Some one_axis) 2 ≡ true
  pub other_version : is_bad_variations (changed 3 1) (Some one_axis) 2 ≡ true
  pub no_fvar : is_bad_variations short_table None 2 ≡ true
  pub cut_fvar : is_bad_variations short_table (Some (take 9 one_axis)) 2 ≡ true
  pub other_axes : is_bad_variations (changed 5 0) (Some one_axis) 2 ≡ true
  pub fewer_glyphs : is_bad_variations short_table (Some one_axis) 1 ≡ true
  pub other_flags : is_bad_variations (changed 15 2) (Some one_axis) 2 ≡ true
  pub cut_offsets : is_bad_variations (take 25 short_table) (Some one_axis) 2 ≡ true
  pub tuples_over_offsets : is_bad_variations (changed 11 25) (Some one_axis) 2 ≡ true
  pub tuples_at_end : is_bad_variations (changed 11 32) (Some one_axis) 2 ≡ false
  pub tuples_past_end : is_bad_variations (changed 11 33) (Some one_axis) 2 ≡ true
  pub falling_offset : is_bad_variations (changed 25 0) (Some one_axis) 2 ≡ true
  pub offset_past_end : is_bad_variations (changed 25 4) (Some one_axis) 2 ≡ true
  pub array_past_end : is_bad_variations (changed 19 29) (Some one_axis) 2 ≡ true
