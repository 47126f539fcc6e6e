-- What is read of a small font, and what is kept of it for two sets of codes, by computation.
use Rattle.std.proofs.Common.{◌≡◌, ℕ, zero, suc, ◌<◌, ◌≤◌, ◌⊎◌, ◌&&◌, ◌||◌, Bool, true, false, cond, nat_eq, nat_lt}
use Rattle.std.proofs.Common.{List, []}
use Rattle.std.proofs.Common.{◌∷◌, get_or, map, take, refl, sym, ap, subst, ◌∙◌, arith, Option, Some, None, option_map}
use Rattle.std.proofs.Common.{inl, inr, flat_map}
use Rattle.std.specs.List.{range_with_len}
use Rattle.std.specs.Option.{option_or}
use Rattle.std.proofs.lemmas.Bool.{cases_eq, cases_lt, eqb-true, le-leb, le-ltb, lt-ltb, ltb-true, ne_eqb, or_cases}
use Rattle.std.proofs.lemmas.Bool.{or_right}
use Rattle.std.proofs.lemmas.Bool.Decides.{same_from_decides}
use Rattle.std.proofs.lemmas.List.{get_or-take, get_or_past, length-take}
use Rattle.std.proofs.lemmas.List.FromFn.{get_or-map-range_with_len}
use Rattle.sfnt_bytes.specs.Directory.{entry_at, kept_tag, records_of, table_entry, table_of, tag_at}
use Rattle.sfnt_bytes.specs.Lines.{when}
use Rattle.sfnt_bytes.specs.Number.{u16_at, u32_at}
use Rattle.sfnt_bytes.specs.Refusals.{directory_fault, is_duplicate, is_outside}
use Rattle.sfnt_bytes.specs.declared.base6.TheConstants.{BASE6}
use Rattle.font_tables.specs.Fields.{glyph_count_of, index_to_loc_format, loca_form_of, magic_number, maxp_version}
use Rattle.font_tables.specs.Fields.{metric_count_of, num_glyphs, number_of_h_metrics}
use Rattle.font_tables.specs.Outlines.{offset_at, outline_of}
use Rattle.font_tables.specs.Refusals.{is_bad_offset, is_missing, table_fault}
use Rattle.font_tables.specs.Tables.{cmap_tag, glyf_tag, head_tag, hhea_tag, hmtx_tag, loca_tag, maxp_tag}
use Rattle.font_tables.specs.Tables.{required_tags, table_or_empty}
use Rattle.codes.specs.CharacterMap.{restricted}
use Rattle.font_map.specs.Cmap.{candidate_of, chosen_record, encoding_count, is_candidate, is_malformed, subtable_at}
use Rattle.cmap_subtables.specs.Format4.{entry_or_zero, glyph_by, segment_count, segment_glyph, segment_in, segments_of}
use Rattle.font_map.specs.Mapping.{listed_glyph, mapping_of}
use Rattle.font_map.specs.Refusals.{map_fault}
use Rattle.font_glyph.specs.Component.{component_size}
use Rattle.font_glyph.specs.Reach.{IsClosed, IsComponentOf, names}
use Rattle.font_glyph.specs.Reach.Reach.{part, seed}
use Rattle.font_glyph.specs.Record.{chain_of, components_of}
use Rattle.font_glyph.proofs.ReachLemmas.{Reach-within, names_decides}
use Rattle.font_file.specs.Font.{cmap_of, font_fault, is_bad_glyph, is_record}
use Rattle.font_file.specs.declared.font_error.FontError.TheVariants.{Directory, Mapping, Tables}
use Rattle.font_file.proofs.FontLemmas.{font_fault_is, glyph_fault}
use Rattle.font_theory.specs.Bytes.{bytes16, cut_head, padded}
use Rattle.font_theory.specs.Content.{Content, Font, IsFont, content, is_kept, is_made, is_root, is_seed, of_codes}
use Rattle.font_theory.specs.Content.{plain_font}
use Rattle.font_theory.specs.WorkedFiles.{of_words}
use Rattle.font_theory.proofs.ContentLemmas.{nothing_either}
use Rattle.font_theory.proofs.FontLemmas.{IsFont-accepted}
use Rattle.font_theory.proofs.WantedLemmas.{IsKept, is_kept-decides, is_root-none, is_seed-code, is_seed-tells}
use Rattle.font_theory.proofs.WantedLemmas.{is_seed-zero}
use Rattle.font_theory.proofs.WantedLemmas.{restricted-past, seeds-roots}

-- the bytes of numbers of 16 bits
abbrev of_halves : List ℕ → List ℕ
of_halves = flat_map bytes16

-- the tables that a cut keeps, and the outlines, padded
abbrev pub small_head : List ℕ
small_head = of_halves (
    0x0001 ∷ 0x0000 ∷ 0x0001 ∷ 0x0000 ∷ 0x0000 ∷ 0x0000 ∷ 0x5F0F ∷ 0x3CF5 ∷ 0x0000 ∷ 0x03E8
    ∷ 0x0000 ∷ 0x0000 ∷ 0x0000 ∷ 0x0000 ∷ 0x0000 ∷ 0x0000 ∷ 0x0000 ∷ 0x0000 ∷ 0x0000 ∷ 0x0000
    ∷ 0x01F4 ∷ 0x01F4 ∷ 0x0000 ∷ 0x0008 ∷ 0x0002 ∷ 0x0001 ∷ 0x0000 ∷ [])

abbrev pub small_hhea : List ℕ
small_hhea = of_words (0x00010000 ∷ 0x0320FF38 ∷ 0x00000258 ∷ 0x00000000 ∷ 0x01F40001 ∷ 0x00000000 ∷ 0x00000000
    ∷ 0x00000000 ∷ 0x00000006 ∷ [])

abbrev pub small_hmtx : List ℕ
small_hmtx = of_words (0x02580000 ∷ 0x01F40000 ∷ 0x01900000 ∷ 0x01F40000 ∷ 0x00FA0000 ∷ 0x012C0000 ∷ [])

abbrev pub small_maxp : List ℕ
small_maxp = of_words (0x00010000 ∷ 0x00060000 ∷ 0x00000000 ∷ 0x00000001 ∷ 0x00000000 ∷ 0x00000000 ∷ 0x00000002
    ∷ 0x00020001 ∷ [])

abbrev pub small_notdef : List ℕ
small_notdef = of_words (0x00000000 ∷ 0x00000064 ∷ 0x00640000 ∷ [])

abbrev pub small_a : List ℕ
small_a = of_words (0x00000000 ∷ 0x000000C8 ∷ 0x00C80002 ∷ 0x11220000 ∷ [])

abbrev pub small_acute : List ℕ
small_acute = of_words (0x00000000 ∷ 0x0000012C ∷ 0x012C0000 ∷ [])

abbrev pub small_aacute : List ℕ
small_aacute = of_words (0xFFFF0000 ∷ 0x000001F4 ∷ 0x01F40022 ∷ 0x00010000 ∷ 0x00020002 ∷ 0x05050000 ∷ [])

abbrev small_tables : List (Option (List ℕ))
small_tables = None ∷ None ∷ None ∷ None ∷ None ∷ None ∷ None ∷ Some small_hhea ∷ Some small_hmtx ∷ None
    ∷ Some small_maxp ∷ None ∷ None ∷ None ∷ None ∷ None ∷ []

abbrev pub small_copied : ℕ → Option (List ℕ)
small_copied slot = get_or small_tables slot None

abbrev pub font : Font
font = plain_font BASE6

-- nothing refuses it
directory_fine : directory_fault BASE6 ≡ None
unfolding directory_fault is_duplicate is_outside table_entry records_of entry_at tag_at u16_at u32_at
directory_fine = refl

tables_fine : table_fault BASE6 ≡ None
unfolding table_fault is_missing required_tags cmap_tag glyf_tag head_tag hhea_tag hmtx_tag loca_tag maxp_tag
    table_or_empty table_of table_entry records_of entry_at tag_at u16_at u32_at glyph_count_of metric_count_of
    num_glyphs number_of_h_metrics index_to_loc_format loca_form_of magic_number maxp_version is_bad_offset offset_at
tables_fine = refl

map_fine : map_fault (cmap_of BASE6) ≡ None
unfolding map_fault cmap_of kept_tag table_of table_entry records_of entry_at tag_at u16_at u32_at chosen_record
    candidate_of encoding_count is_candidate subtable_at is_malformed segment_count
map_fine = refl

glyphs_fine : glyph_fault BASE6 ≡ None
unfolding is_bad_glyph is_record components_of chain_of component_size outline_of offset_at glyph_count_of num_glyphs
    index_to_loc_format loca_form_of table_or_empty glyf_tag head_tag loca_tag maxp_tag table_of table_entry records_of
    entry_at tag_at u16_at u32_at
glyphs_fine = refl

accepted : font_fault BASE6 ≡ None
accepted =
    font_fault_is BASE6
    ∙ (λ i. option_or (option_map Directory (directory_fine i)) (option_or (option_map Tables (tables_fine i))
    (option_or (option_map Mapping (map_fine i)) (glyphs_fine i))))

pub is_font : IsFont font
is_font = IsFont-accepted BASE6 accepted

head_is : font.head ≡ small_head
unfolding cut_head table_or_empty head_tag table_of table_entry records_of entry_at tag_at u16_at u32_at
head_is = refl

-- slot by slot
copied_listed : map font.copied (range_with_len 0 16) ≡ map small_copied (range_with_len 0 16)
unfolding kept_tag table_of table_entry records_of entry_at tag_at u16_at u32_at
copied_listed = refl

copied_is : (slot : ℕ) → font.copied slot ≡ small_copied slot
copied_is slot = elim (cases_lt slot 16) [
  | inl low ↦
      sym (get_or-map-range_with_len font.copied 0 16 slot slot None low (omega arith))
      ∙ ap (λ (l : List (Option (List ℕ))). get_or l slot None) copied_listed
      ∙ get_or-map-range_with_len small_copied 0 16 slot slot None low (omega arith)
  | inr past ↦
      let made : is_made slot ≡ true = or_right _ _ (le-leb 16 slot past) in
      ap (λ (b : Bool). cond b None (table_of BASE6 (kept_tag slot))) made
      ∙ sym (get_or_past small_tables slot None past)
]

-- the outlines: those of the first four glyphs, as they are padded, and what they name
abbrev pub small_outlines : List (Option (List ℕ))
small_outlines = Some small_notdef ∷ Some small_a ∷ Some small_acute ∷ Some small_aacute ∷ []

outlines_listed : map (λ g. Some (padded (font.outline g))) (range_with_len 0 4) ≡ small_outlines
unfolding glyph_count_of outline_of offset_at loca_form_of index_to_loc_format num_glyphs table_or_empty cmap_tag
    glyf_tag head_tag hhea_tag hmtx_tag loca_tag maxp_tag table_of table_entry records_of entry_at tag_at u16_at u32_at
    padded
outlines_listed = refl

outline_is : (g : ℕ) → g < 4 → Some (padded (font.outline g)) ≡ get_or small_outlines g None
outline_is g low =
    sym (get_or-map-range_with_len (λ h. Some (padded (font.outline h))) 0 4 g g None low (omega arith))
    ∙ ap (λ (l : List (Option (List ℕ))). get_or l g None) outlines_listed

-- the components of the first four glyphs are among them, and .notdef has none
named_listed : (g : ℕ) → map (λ s. names (font.outline s) g) (range_with_len 0 4) ≡ false ∷ false ∷ false
    ∷ (nat_eq 1 g || (nat_eq 2 g || false)) ∷ []
unfolding names components_of chain_of component_size glyph_count_of outline_of offset_at loca_form_of
    index_to_loc_format num_glyphs table_or_empty cmap_tag glyf_tag head_tag hhea_tag hmtx_tag loca_tag maxp_tag
    table_of table_entry records_of entry_at tag_at u16_at u32_at
named_listed g = refl

component_of-small : (s g : ℕ) → s < 4 → IsComponentOf (font.outline s) g → (s ≡ 3) × ((g ≡ 1) ⊎ (g ≡ 2))
component_of-small s g low h = cases s low (there ∙ (names_decides (font.outline s) g).1 h)
  where
    named : List Bool
    named = false ∷ false ∷ false ∷ (nat_eq 1 g || (nat_eq 2 g || false)) ∷ []

    there : get_or named s false ≡ names (font.outline s) g
    there =
        ap (λ (l : List Bool). get_or l s false) (sym (named_listed g))
        ∙ get_or-map-range_with_len (λ k. names (font.outline k) g) 0 4 s s false low (omega arith)

    cases : (k : ℕ) → k < 4 → get_or named k false ≡ true → (k ≡ 3) × ((g ≡ 1) ⊎ (g ≡ 2))
    cases zero l e = cc
    cases (suc zero) l e = cc
    cases (suc (suc zero)) l e = cc
    cases (suc (suc (suc zero))) l e = (refl, either e)
      where
        either : (nat_eq 1 g || (nat_eq 2 g || false)) ≡ true → (g ≡ 1) ⊎ (g ≡ 2)
        either t = elim (or_cases (nat_eq 1 g) (nat_eq 2 g || false) t) [
          | inl one ↦ inl (sym (eqb-true 1 g one))
          | inr other ↦ elim (or_cases (nat_eq 2 g) false other) [
            | inl two ↦ inr (sym (eqb-true 2 g two))
            | inr none ↦
                cc
          ]
        ]
    cases (suc (suc (suc (suc k)))) l e = absurd (omega arith)

-- no glyph of it is wanted by number
roots_are : (wanted : ℕ → Bool) → is_root font (of_codes wanted) ≡ is_seed (restricted wanted font.map)
roots_are wanted = is_root-none font (of_codes wanted) (λ g. refl)

first : (wanted : ℕ → Bool) (g : ℕ) → is_seed (restricted wanted font.map) g ≡ true → IsKept font (of_codes wanted) g
first wanted g h = seed (seeds-roots font (of_codes wanted) is_font g h)

-- what is kept are the glyphs below a number, where seeds and components stay below it and each of them is
-- reached
kept_below : (wanted : ℕ → Bool) (n : ℕ) → ((g : ℕ) → is_seed (restricted wanted font.map) g ≡ true → g < n)
    → ((s g : ℕ) → s < n → IsComponentOf (font.outline s) g → g < n)
    → ((g : ℕ) → g < n → IsKept font (of_codes wanted) g) → (g : ℕ) → is_kept font (of_codes wanted) g ≡ nat_lt g n
kept_below wanted n seeds parts back g =
    same_from_decides {P = IsKept font (of_codes wanted) g} (is_kept font (of_codes wanted) g) (nat_lt g n)
    (is_kept-decides font (of_codes wanted) is_font g) (
      (λ t. back g (ltb-true g n t)),
      (λ r. Reach-within font.outline (is_root font (of_codes wanted))
          (λ h. nat_lt h n) closed g r),
    )
  where
    closed : IsClosed font.outline (is_root font (of_codes wanted)) (λ h. nat_lt h n ≡ true)
    closed = record {
      has_seeds = λ h e. lt-ltb h n (seeds h (subst (λ (p : ℕ → Bool). p h ≡ true) (roots_are wanted) e));
      has_parts = λ s h e c. lt-ltb h n (parts s h (ltb-true s n e) c);
    }

-- for no code: .notdef alone
abbrev pub nothing : ℕ → Bool
nothing c = false

nothing_kept : (g : ℕ) → is_kept font (of_codes nothing) g ≡ nat_lt g 1
nothing_kept g = kept_below nothing 1 seeds parts back g
  where
    seeds : (h : ℕ) → is_seed (restricted nothing font.map) h ≡ true → h < 1
    seeds h e = elim (is_seed-tells (restricted nothing font.map) h e) [
      | inl zero_is ↦ omega arith
      | inr w ↦
          let same : 0 ≡ h = w.1 in omega arith
    ]

    parts : (s h : ℕ) → s < 1 → IsComponentOf (font.outline s) h → h < 1
    parts s h low c = let w = component_of-small s h (omega arith) c in let three : s ≡ 3 = w.0 in absurd (omega arith)

    back : (h : ℕ) → h < 1 → IsKept font (of_codes nothing) h
    back h low = let e : 0 ≡ h = omega arith in
        subst (IsKept font (of_codes nothing)) e (first nothing 0 (is_seed-zero (restricted nothing font.map)))

-- for 0xC1: its glyph 3, the components 1 and 2 of that, and .notdef
abbrev pub only_aacute : ℕ → Bool
only_aacute c = nat_eq c 0xC1

abbrev aacute_map : ℕ → ℕ
aacute_map = restricted only_aacute font.map

mapped_there : font.map 0xC1 ≡ 3
unfolding mapping_of cmap_of chosen_record candidate_of encoding_count is_candidate subtable_at listed_glyph
    segment_glyph segments_of segment_in segment_count glyph_by entry_or_zero glyph_count_of num_glyphs table_or_empty
    maxp_tag kept_tag table_of table_entry records_of entry_at tag_at u16_at u32_at
mapped_there = refl

-- one code on one glyph
abbrev pub one_code : ℕ → ℕ
one_code c = cond (nat_eq c 0xC1) 3 0

aacute_map_is : (c : ℕ) → aacute_map c ≡ one_code c
aacute_map_is c = elim (cases_eq c 0xC1) [
  | inl e ↦ subst (λ (k : ℕ). aacute_map k ≡ one_code k) (sym e) mapped_there
  | inr other ↦ let f = ne_eqb c 0xC1 other in rw f refl
]

aacute_kept : (g : ℕ) → is_kept font (of_codes only_aacute) g ≡ nat_lt g 4
aacute_kept g = kept_below only_aacute 4 seeds parts back g
  where
    three : aacute_map 0xC1 ≡ 3
    three = mapped_there

    seeds : (h : ℕ) → is_seed aacute_map h ≡ true → h < 4
    seeds h e = elim (is_seed-tells aacute_map h e) [
      | inl zero_is ↦ omega arith
      | inr w ↦ let same : one_code w.0 ≡ h = sym (aacute_map_is w.0) ∙ w.1 in elim (cases_eq w.0 0xC1) [
        | inl is ↦ let at : one_code w.0 ≡ 3 = ap one_code is in omega arith
        | inr other ↦ let f = ne_eqb w.0 0xC1 other in let at : one_code w.0 ≡ 0 =
            ap {B = ℕ} (λ (b : Bool). cond b 3 0) f in omega arith
      ]
    ]

    parts : (s h : ℕ) → s < 4 → IsComponentOf (font.outline s) h → h < 4
    parts s h low c = let w = component_of-small s h low c in elim w.1 [ inl one ↦ omega arith | inr two ↦ omega arith ]

    third : IsKept font (of_codes only_aacute) 3
    third = first only_aacute 3 (subst (λ (k : ℕ). is_seed aacute_map k ≡ true) three
        (is_seed-code aacute_map (restricted-past font (of_codes only_aacute) is_font) 0xC1))

    named : (h : ℕ) → (nat_eq 1 h || (nat_eq 2 h || false)) ≡ true → IsKept font (of_codes only_aacute) h
    named h e = part third ((names_decides (font.outline 3) h).0 (ap (λ (l : List Bool). get_or l 3 false)
        (named_listed h) ∙ e))

    back : (h : ℕ) → h < 4 → IsKept font (of_codes only_aacute) h
    back zero low = first only_aacute 0 (is_seed-zero aacute_map)
    back (suc zero) low = named 1 refl
    back (suc (suc zero)) low = named 2 refl
    back (suc (suc (suc zero))) low = third
    back (suc (suc (suc (suc h)))) low = absurd (omega arith)

-- the content with these outlines and this map
abbrev pub small_content : (ℕ → ℕ) → ℕ → Content
small_content m n = record {
  copied = small_copied;
  head = small_head;
  map = m;
  outline = λ g. get_or (take n small_outlines) g None;
  parts = λ _ _. [];
  there = λ _. false;
}

outlines_are : (n g : ℕ) → n ≤ 4 → when (nat_lt g n) (padded (font.outline g)) ≡ get_or (take n small_outlines) g None
outlines_are n g few = elim (cases_lt g n) [
  | inl low ↦
      let t = lt-ltb g n low in
      ap (λ (b : Bool). when b (padded (font.outline g))) t ∙ outline_is g (omega arith)
      ∙ sym (get_or-take n small_outlines g None low)
  | inr past ↦
      let f = le-ltb g n past in
      ap (λ (b : Bool). when b (padded (font.outline g))) f
      ∙ sym (get_or_past (take n small_outlines) g None (omega (arith, length-take n small_outlines)))
]

content_is : (wanted : ℕ → Bool) (m : ℕ → ℕ) (n : ℕ) → n ≤ 4 → ((c : ℕ) → restricted wanted font.map c ≡ m c)
    → ((g : ℕ) → is_kept font (of_codes wanted) g ≡ nat_lt g n) → content font (of_codes wanted) ≡ small_content m n
content_is wanted m n few maps kept = λ i. record {
  copied = λ slot. copied_is slot i;
  head = head_is i;
  map = λ c. maps c i;
  outline = λ g. (ap (λ (b : Bool). when b (padded (font.outline g))) (kept g) ∙ outlines_are n g few) i;
  parts = λ slot g. nothing_either (is_kept font (of_codes wanted) g) [] refl i;
  there = λ g. none (is_kept font (of_codes wanted) g) i;
}
  where
    none : (b : Bool) → (b && false) ≡ false
    none true = refl
    none false = refl

pub content-nothing : content font (of_codes nothing) ≡ small_content (λ c. 0) 1
content-nothing = content_is nothing (λ c. 0) 1 (omega arith) (λ c. refl) nothing_kept

pub content-aacute : content font (of_codes only_aacute) ≡ small_content one_code 4
content-aacute = content_is only_aacute one_code 4 (omega arith) aacute_map_is aacute_kept
