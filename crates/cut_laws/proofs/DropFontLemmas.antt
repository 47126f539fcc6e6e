-- A font without tables that full cuts do not keep is accepted, or refused, as it was.
use Rattle.std.proofs.Common.{◌≡◌, ◌∙◌, ℕ, suc, ◌+◌, ◌<◌, Bool, cond, List, [], ◌∷◌, ◌++◌, Some, None, ◌||◌, ◌&&◌, ◌*◌}
use Rattle.std.proofs.Common.{ap, refl, sym, arith, length, map, find, not, nat_lt, get_or, unwrap_or, nat_eq}
use Rattle.std.specs.List.{range_with_len}
use Rattle.std.specs.Option.{is_none, option_map}
use Rattle.sfnt_bytes.specs.Directory.{HasRecords, kept_tag, slot_tag, table_of}
use Rattle.sfnt_bytes.specs.Lines.{first_of_lines, when}
use Rattle.sfnt_bytes.specs.Refusals.{directory_lines, is_duplicate, is_outside}
use Rattle.sfnt_bytes.specs.declared.directory.DirError.TheVariants as directories
use Rattle.sfnt_bytes.specs.declared.directory.TheConstants.{MAX_FILE}
use Rattle.sfnt_bytes.specs.declared.tag.Tag.{Tag}
use Rattle.sfnt_bytes.specs.declared.tag.TheConstants.{ALL_SLOTS, CMAP, GLYF, HEAD, HHEA, HMTX, KEPT, LOCA, MAXP, SLOTS}
use Rattle.font_tables.specs.Fields.{form_of_format, glyph_count_of, index_to_loc_format, loca_form_of, metric_count_of}
use Rattle.font_tables.specs.Fields.{num_glyphs, number_of_h_metrics}
use Rattle.font_tables.specs.Outlines.{outline_in, outline_of}
use Rattle.font_tables.specs.Refusals.{is_bad_head, is_bad_hhea, is_bad_hmtx, is_bad_maxp, is_bad_offset, is_missing}
use Rattle.font_tables.specs.Refusals.{table_lines}
use Rattle.font_tables.specs.declared.tables.TableError.TheVariants as tables
use Rattle.font_tables.specs.Tables.{cmap_tag, glyf_tag, head_of, head_tag, hhea_tag, hmtx_tag}
use Rattle.font_tables.specs.Tables.{loca_tag, maxp_tag, required_tags, table_or_empty}
use Rattle.font_tables.proofs.SlotLemmas.{are_slots}
use Rattle.font_map.specs.Refusals.{map_lines}
use Rattle.font_file.specs.Font.{cmap_of, font_fault, glyph_lines, is_bad_glyph, is_record}
use Rattle.font_file.specs.declared.font_error.FontError.TheVariants.{BadGlyph, Directory, Mapping, Tables}
use Rattle.font_theory.proofs.TagLemmas.{slot_tag-kept}
use Rattle.commands.specs.Drop.{without_tables}
use Rattle.cut_laws.specs.Dropping.{DroppingKeepsFault, KeptStay}
use Rattle.cut_laws.proofs.DropByteLemmas.{length-without}
use Rattle.cut_laws.proofs.DropTableLemmas.{is_duplicate-without, is_outside-without, same_tag-blanks}
use Rattle.cut_laws.proofs.DropTableLemmas.{table-without, table_count-without, version-without}

-- what is found in a list is the same where two tests answer alike
pub find-same : (p q : Tag → Bool) (xs : List Tag) (d : Tag)
    → ((k : ℕ) → k < length xs → p (get_or xs k d) ≡ q (get_or xs k d))
    → find p xs ≡ find q xs
find-same p q [] d same = refl
find-same p q (x ∷ xs) d same =
    (λ i. cond (same 0 (omega arith) i) (Some x) (find-same p q xs d (λ k low. same (suc k) (omega (arith, low))) i))

module _ (tags : List Tag) (file : List ℕ) (fits : HasRecords file) (stay : KeptStay tags file) where
  abbrev made : List ℕ
  made = without_tables tags file

  long : (slot : ℕ) → slot < SLOTS → slot < ALL_SLOTS
  long slot low = omega (arith, low)

  table-slot : (slot : ℕ) → slot < SLOTS → table_of made (kept_tag slot) ≡ table_of file (kept_tag slot)
  table-slot slot low =
      ap (table_of made) (sym (slot_tag-kept slot low))
      ∙ table-without tags file fits (slot_tag slot) (stay slot low) (same_tag-blanks slot (long slot low))
      ∙ ap (table_of file) (slot_tag-kept slot low)

  named-table : (slot : ℕ) (tag : Tag) → slot < SLOTS → kept_tag slot ≡ tag → table_of made tag ≡ table_of file tag
  named-table slot tag low is = ap (table_of made) (sym is) ∙ table-slot slot low ∙ ap (table_of file) is

  cmap-table : table_of made cmap_tag ≡ table_of file cmap_tag
  cmap-table = named-table CMAP cmap_tag (omega arith) are_slots.cmap

  glyf-table : table_of made glyf_tag ≡ table_of file glyf_tag
  glyf-table = named-table GLYF glyf_tag (omega arith) are_slots.glyf

  head-table : table_of made head_tag ≡ table_of file head_tag
  head-table = named-table HEAD head_tag (omega arith) are_slots.head

  hhea-table : table_of made hhea_tag ≡ table_of file hhea_tag
  hhea-table = named-table HHEA hhea_tag (omega arith) are_slots.hhea

  hmtx-table : table_of made hmtx_tag ≡ table_of file hmtx_tag
  hmtx-table = named-table HMTX hmtx_tag (omega arith) are_slots.hmtx

  loca-table : table_of made loca_tag ≡ table_of file loca_tag
  loca-table = named-table LOCA loca_tag (omega arith) are_slots.loca

  maxp-table : table_of made maxp_tag ≡ table_of file maxp_tag
  maxp-table = named-table MAXP maxp_tag (omega arith) are_slots.maxp

  or_empty : (tag : Tag) → table_of made tag ≡ table_of file tag → table_or_empty made tag ≡ table_or_empty file tag
  unfolding table_or_empty
  or_empty tag same = ap (λ o. unwrap_or o []) same

  pub cmap-without : cmap_of (without_tables tags file) ≡ cmap_of file
  unfolding cmap_of
  cmap-without = ap (λ o. unwrap_or o []) (table-slot CMAP (omega arith))

  pub head-without : head_of (without_tables tags file) ≡ head_of file
  head-without = or_empty head_tag head-table

  pub count-without : glyph_count_of (without_tables tags file) ≡ glyph_count_of file
  unfolding glyph_count_of
  count-without = ap num_glyphs (or_empty maxp_tag maxp-table)

  metrics-without : metric_count_of made ≡ metric_count_of file
  unfolding metric_count_of
  metrics-without = ap number_of_h_metrics (or_empty hhea_tag hhea-table)

  form-without : loca_form_of made ≡ loca_form_of file
  unfolding loca_form_of
  form-without = ap (λ head. form_of_format (index_to_loc_format head)) head-without

  pub outline-without : outline_of (without_tables tags file) ≡ outline_of file
  unfolding outline_of
  outline-without = λ i g.
      outline_in (form-without i) (or_empty loca_tag loca-table i) (or_empty glyf_tag glyf-table i) g

  duplicates : find (is_duplicate made) KEPT ≡ find (is_duplicate file) KEPT
  unfolding kept_tag slot_tag
  duplicates = find-same (is_duplicate made) (is_duplicate file) KEPT (record { 0 = [] })
      (λ slot low. duplicate-slot slot low)
    where
      duplicate-slot : (slot : ℕ) → slot < SLOTS → is_duplicate made (kept_tag slot) ≡ is_duplicate file (kept_tag slot)
      duplicate-slot slot low =
          ap (is_duplicate made) (sym (slot_tag-kept slot low))
          ∙ is_duplicate-without tags file fits (slot_tag slot) (stay slot low) (same_tag-blanks slot (long slot low))
          ∙ ap (is_duplicate file) (slot_tag-kept slot low)

  outside : find (is_outside made) KEPT ≡ find (is_outside file) KEPT
  unfolding kept_tag slot_tag
  outside = find-same (is_outside made) (is_outside file) KEPT (record { 0 = [] }) (λ slot low. outside-slot slot low)
    where
      outside-slot : (slot : ℕ) → slot < SLOTS → is_outside made (kept_tag slot) ≡ is_outside file (kept_tag slot)
      outside-slot slot low =
          ap (is_outside made) (sym (slot_tag-kept slot low))
          ∙ is_outside-without tags file fits (slot_tag slot) (stay slot low) (same_tag-blanks slot (long slot low))
          ∙ ap (is_outside file) (slot_tag-kept slot low)

  directory-same : directory_lines made ≡ directory_lines file
  directory-same = λ i.
      let size = length-without tags file fits i in
      let version = version-without tags file fits i in
      let truetype = nat_eq version 0x00010000 || nat_eq version 0x74727565 in
      when (nat_lt MAX_FILE size) directories.FileTooLarge
      ∷ when (nat_lt size 12 || (truetype && nat_lt size (12 + 16 * table_count-without tags file fits i)))
      directories.Truncated
      ∷ when (nat_eq version 0x74746366) directories.Collection
      ∷ when (not truetype) directories.NotTrueType
      ∷ option_map directories.DuplicateTable (duplicates i)
      ∷ option_map directories.TableOutOfFile (outside i)
      ∷ []

  missing-same : find (is_missing made) required_tags ≡ find (is_missing file) required_tags
  unfolding is_missing required_tags
  missing-same = λ i.
      cond (is_none (cmap-table i)) (Some cmap_tag) (cond (is_none (glyf-table i)) (Some glyf_tag)
      (cond (is_none (head-table i)) (Some head_tag) (cond (is_none (hhea-table i)) (Some hhea_tag)
      (cond (is_none (hmtx-table i)) (Some hmtx_tag) (cond (is_none (loca-table i)) (Some loca_tag)
      (cond (is_none (maxp-table i)) (Some maxp_tag) None))))))

  tables-same : table_lines made ≡ table_lines file
  tables-same = λ i.
      option_map tables.MissingTable (missing-same i)
      ∷ when (is_bad_head (head-without i)) tables.BadHead
      ∷ when (is_bad_maxp (or_empty maxp_tag maxp-table i)) tables.BadMaxp
      ∷ when (is_bad_hhea (or_empty hhea_tag hhea-table i) (count-without i)) tables.BadHhea
      ∷ when (is_bad_hmtx (or_empty hmtx_tag hmtx-table i) (metrics-without i) (count-without i)) tables.BadHmtx
      ∷ option_map tables.BadLoca
      (find (λ j. is_bad_offset (form-without i) (or_empty loca_tag loca-table i)
      (length (or_empty glyf_tag glyf-table i)) j)
      (range_with_len 0 (count-without i + 1)))
      ∷ []

  glyphs-same : glyph_lines made ≡ glyph_lines file
  unfolding is_bad_glyph
  glyphs-same = λ i.
      option_map BadGlyph
      (find (λ g. not (is_record (count-without i) (outline-without i g))) (range_with_len 0 (count-without i)))
      ∷ []

pub fault-without : DroppingKeepsFault
unfolding font_fault
fault-without tags file fits stay = λ i. first_of_lines
    (map (option_map Directory) (directory-same tags file fits stay i)
    ++ (map (option_map Tables) (tables-same tags file fits stay i)
    ++ (map (option_map Mapping) (map_lines (cmap-without tags file fits stay i))
    ++ glyphs-same tags file fits stay i)))
