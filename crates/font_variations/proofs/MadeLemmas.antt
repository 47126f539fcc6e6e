-- A `gvar` that is made is accepted, and read back.
use Rattle.std.proofs.Common.{◌≡◌, ℕ, ◌+◌, ◌*◌, ◌<◌}
use Rattle.std.proofs.Common.{List, [], ◌++◌, take, drop, length, refl, sym, ap, ◌∙◌, arith}
use Rattle.std.specs.List.{concat}
use Rattle.std.proofs.lemmas.List.{drop-drop, drop_at, length-append, take_at}
use Rattle.std.proofs.lemmas.List.FromFn.{get_or-map-range_with_len, length-map-range_with_len}
use Rattle.sfnt_bytes.specs.Number.{u16_at, u32_at}
use Rattle.font_tables.specs.Fields.{form_of_format}
use Rattle.font_tables.specs.Outlines.{outline_in}
use Rattle.font_tables.specs.declared.loca.LocaForm.TheVariants.{Long}
use Rattle.font_variations.specs.Gvar.{axis_count, data_array_offset, data_of, flags, from_data, from_offsets, front_of}
use Rattle.font_variations.specs.Gvar.{gvar_glyph_count, gvar_version, offset_form, shared_tuple_count}
use Rattle.font_variations.specs.Gvar.{shared_tuples_length, shared_tuples_of, shared_tuples_offset}
use Rattle.font_variations.specs.MadeGvar.{data_at, gvar_bytes, listed_data, offset_bytes}
use Rattle.font_variations.specs.MadeGvar.{tuples_at, u16_bytes, u32_bytes}
use Rattle.font_variations.proofs.DataLemmas.{length-offset_bytes, outline_in-made}
use Rattle.font_variations.proofs.NumberLemmas.{half_is, u16_at-drop, u16_at-front, u32_at-drop, u32_at-front}

module _ (front shared : List ℕ) (of_glyph : ℕ → List ℕ) (n : ℕ) (eight : length front ≡ 8) where
  abbrev listed : List (List ℕ)
  listed = listed_data of_glyph n

  abbrev made : List ℕ
  made = gvar_bytes front shared of_glyph n

  -- what stands after the header
  abbrev body : List ℕ
  body = offset_bytes listed ++ (shared ++ concat listed)

  -- what stands after the first 8 bytes
  abbrev behind : List ℕ
  behind = u32_bytes (tuples_at n) ++ (u16_bytes n ++ (u16_bytes 1 ++ (u32_bytes (data_at shared n) ++ body)))

  pub length-listed : length listed ≡ n
  length-listed = length-map-range_with_len of_glyph 0 n

  drop-front : drop 8 made ≡ behind
  unfolding gvar_bytes
  drop-front = drop_at front behind 8 eight

  pub front_of-made : front_of made ≡ front
  unfolding gvar_bytes front_of
  front_of-made = take_at front behind 8 eight

  pub drop-header : from_offsets made ≡ body
  drop-header = sym (drop-drop 12 8 made) ∙ ap (drop 12) drop-front

  -- the fields
  u16_of : (at : ℕ) → u16_at made (8 + at) ≡ u16_at behind at
  u16_of at = sym (u16_at-drop 8 at made) ∙ ap (λ (b : List ℕ). u16_at b at) drop-front

  u32_of : (at : ℕ) → u32_at made (8 + at) ≡ u32_at behind at
  u32_of at = sym (u32_at-drop 8 at made) ∙ ap (λ (b : List ℕ). u32_at b at) drop-front

  pub gvar_version-made : gvar_version made ≡ gvar_version front
  unfolding gvar_version gvar_bytes
  gvar_version-made = u32_at-front front behind 0 (omega arith)

  pub axis_count-made : axis_count made ≡ axis_count front
  unfolding axis_count gvar_bytes
  axis_count-made = u16_at-front front behind 4 (omega arith)

  pub shared_tuple_count-made : shared_tuple_count made ≡ shared_tuple_count front
  unfolding shared_tuple_count gvar_bytes
  shared_tuple_count-made = u16_at-front front behind 6 (omega arith)

  at_0 : u32_at behind 0 ≡ tuples_at n
  unfolding u32_at
  at_0 = omega arith

  at_4 : u16_at behind 4 ≡ n
  unfolding u16_at
  at_4 = half_is n

  at_6 : u16_at behind 6 ≡ 1
  unfolding u16_at
  at_6 = refl

  at_8 : u32_at behind 8 ≡ data_at shared n
  unfolding u32_at
  at_8 = omega arith

  pub shared_tuples_offset-made : shared_tuples_offset made ≡ tuples_at n
  unfolding shared_tuples_offset
  shared_tuples_offset-made = u32_of 0 ∙ at_0

  pub glyph_count-made : gvar_glyph_count made ≡ n
  unfolding gvar_glyph_count
  glyph_count-made = u16_of 4 ∙ at_4

  pub flags-made : flags made ≡ 1
  unfolding flags
  flags-made = u16_of 6 ∙ at_6

  pub data_array_offset-made : data_array_offset made ≡ data_at shared n
  unfolding data_array_offset
  data_array_offset-made = u32_of 8 ∙ at_8

  pub offset_form-made : offset_form made ≡ Long
  offset_form-made = ap form_of_format flags-made

  -- the parts
  pub length-made : length made ≡ data_at shared n + length (concat listed)
  unfolding gvar_bytes
  length-made =
      let ends = length-offset_bytes listed in
      let count = length-listed in
      let outer = length-append front behind in
      let inner = length-append (offset_bytes listed) (shared ++ concat listed) in
      let last = length-append shared (concat listed) in
      omega arith

  drop-offsets : drop (tuples_at n) made ≡ shared ++ concat listed
  drop-offsets =
      let ends = length-offset_bytes listed in
      let count = length-listed in
      let size : length (offset_bytes listed) ≡ 4 * (n + 1) = omega arith in
      let sum : tuples_at n ≡ 20 + 4 * (n + 1) = refl in
      sym (drop-drop (4 * (n + 1)) 20 made) ∙ ap (drop (4 * (n + 1))) drop-header
      ∙ drop_at (offset_bytes listed) (shared ++ concat listed) (4 * (n + 1)) size

  from_data-made : from_data made ≡ concat listed
  from_data-made =
      ap (λ (k : ℕ). drop k made) data_array_offset-made ∙ sym (drop-drop (length shared) (tuples_at n) made)
      ∙ ap (drop (length shared)) drop-offsets ∙ drop_at shared (concat listed) (length shared) refl

  pub data_of-made : (g : ℕ) → g < n → data_of made g ≡ of_glyph g
  unfolding data_of
  data_of-made g low =
      let count = length-listed in
      let array = from_data-made in
      (λ i. outline_in (offset_form-made i) (drop-header i) (array i) g)
      ∙ outline_in-made listed (shared ++ concat listed) g (omega arith)
      ∙ get_or-map-range_with_len of_glyph 0 n g g [] low (omega arith)

  pub tuples_length : shared_tuples_length made ≡ shared_tuples_length front
  tuples_length = λ i. 2 * axis_count-made i * shared_tuple_count-made i

  pub shared_tuples_of-made : length shared ≡ shared_tuples_length front → shared_tuples_of made ≡ shared
  unfolding shared_tuples_of
  shared_tuples_of-made tuples =
      let start = shared_tuples_offset-made in
      let long = tuples_length ∙ sym tuples in
      (λ i. take (long i) (drop (start i) made)) ∙ ap (take (length shared)) drop-offsets
      ∙ take_at shared (concat listed) (length shared) refl
