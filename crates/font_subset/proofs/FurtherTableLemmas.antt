-- What is read of the tables of layout and of variations of a font.
use Rattle.std.proofs.Common.{◌≡◌, ◌≢◌, ℕ, zero, suc, ◌+◌, ◌-◌, ◌<◌, ◌≤◌, Bool, true, false, cond, nat_le, List, []}
use Rattle.std.proofs.Common.{◌∷◌, ◌&&◌, get_or, subst}
use Rattle.std.proofs.Common.{Option, None, Some, refl, sym, ◌∙◌, ap, arith}
use Rattle.std.specs.Option.{option_map, option_or, unwrap_or}
use Rattle.std.proofs.lemmas.Bool.{le-leb, lt-leb, lt-ltb, ne_eqb}
use Rattle.sfnt_bytes.specs.Directory.{is_layout_slot, kept_tag, slot_tag, table_of}
use Rattle.sfnt_bytes.specs.Lines.{first_of_lines, when}
use Rattle.sfnt_bytes.specs.Refusals.{is_outside, layout_directory_fault, tag_lines}
use Rattle.sfnt_bytes.specs.declared.directory.DirError.{DirError}
use Rattle.sfnt_bytes.specs.declared.tag.TheConstants.{ALL_SLOTS, CMAP, FIRST_VARIATION, LAYOUT_AND_VARIATIONS}
use Rattle.sfnt_bytes.specs.declared.tag.TheConstants.{SLOTS}
use Rattle.sfnt_bytes.proofs.LineLemmas.{find-none_at}
use Rattle.sfnt_bytes.proofs.RefusalLemmas.{layout_not_outside, tags_inside}
use Rattle.font_tables.specs.Fields.{glyph_count_of}
use Rattle.font_map.specs.Mapping.{mapping_of}
use Rattle.font_file.specs.Font.{cmap_of, font_fault, map_of}
use Rattle.font_file.specs.declared.font_error.FontError.TheVariants.{BadVariations, Directory}
use Rattle.font_theory.specs.Content.{is_bad_variations_in, is_never_copied}
use Rattle.font_theory.specs.Kinds.{fault_by, fault_of, full_settings, layout_settings, lean_settings, read_by}
use Rattle.font_theory.specs.Kinds.{AreSettings, Settings, sequences_of_file, tables_by, tables_of}
use Rattle.font_theory.specs.Kinds.{variable_settings, with_sequences}
use Rattle.font_theory.specs.Kinds.{Reading}
use Rattle.font_theory.specs.Kinds.Reading.{absent, as_it_is, unvarying}
use Rattle.font_theory.specs.SequenceTable.{sequences_of_font}
use Rattle.font_theory.specs.Links.{fixed}
use Rattle.font_theory.specs.declared.kinds.Kind.{Kind}
use Rattle.font_theory.specs.declared.kinds.Kind.TheVariants.{Full, Layout, Lean, Variable}
use Rattle.font_theory.specs.declared.kinds.TheConstants.{SEQUENCES}
use Rattle.font_theory.proofs.FontLemmas.{IsFont-accepted, glyph_count-file}
use Rattle.font_theory.proofs.KindLemmas.{AreSettings-layout, AreSettings-variable}
use Rattle.font_theory.proofs.SequenceSettingsLemmas.{read_there}
use Rattle.font_theory.proofs.SettingsLemmas.{table_in_file-tag}
use Rattle.font_theory.proofs.LinkLemmas.{is_bad_variations_in-none, layout-copied}
use Rattle.font_subset.specs.Inside.{IsRead, fixed_read, slots_of, tags_fault}
use Rattle.divided_tables.specs.DividedTables.{has_refused}
use Rattle.divided_tables.proofs.KindPartLemmas.{refused-is}
use Rattle.font_subset.proofs.SourceLemmas.{full_accepted, lean_accepted, no_sequences}

-- cuts that read none of these tables, and cuts that read some
pub plain_accepted : (kind : Kind) (file : List ℕ) → slots_of kind ≡ SLOTS → font_fault file ≡ None
    → fault_of kind file ≡ None
plain_accepted Full file plain accepted = full_accepted file accepted
plain_accepted Lean file plain accepted = lean_accepted file accepted
plain_accepted Layout file plain accepted = absurd (omega (arith, plain))
plain_accepted Variable file plain accepted = absurd (omega (arith, plain))

pub plain_read : (kind : Kind) (file : List ℕ) → slots_of kind ≡ SLOTS → IsRead kind file None None
unfolding full_settings lean_settings
plain_read Full file plain =
    record { inside = refl; fixed_is = refl; sequences_are = sym (no_sequences Full file plain); short = omega arith }
plain_read Lean file plain =
    record { inside = refl; fixed_is = refl; sequences_are = sym (no_sequences Lean file plain); short = omega arith }
plain_read Layout file plain = absurd (omega (arith, plain))
plain_read Variable file plain = absurd (omega (arith, plain))

-- where more is read, so are the variation sequences
pub further_read : (kind : Kind) (file : List ℕ) → SLOTS < slots_of kind
    → Some (sequences_of_file file) ≡ tables_of kind file SEQUENCES
further_read Full file more = absurd (omega (arith, more))
further_read Lean file more = absurd (omega (arith, more))
further_read Layout file more = refl
further_read Variable file more = refl

-- the font is an accepted one, of which each code has a glyph
pub mapped_below : (file : List ℕ) → font_fault file ≡ None → (code : ℕ) → 0 < map_of file code
    → map_of file code < glyph_count_of file
mapped_below file accepted code some = subst (λ (n : ℕ). map_of file code < n) (glyph_count-file file)
    ((IsFont-accepted file accepted).mapped_below code)

pub of_font : (file cmap : List ℕ) (m : List ℕ × ℕ) (n : ℕ)
    → cmap ≡ unwrap_or (table_of file (kept_tag CMAP)) []
    → m ≡ (cmap_of file, glyph_count_of file) → n ≡ glyph_count_of file
    → sequences_of_font cmap (mapping_of m.0 m.1) n ≡ sequences_of_file file
unfolding cmap_of sequences_of_file
of_font file cmap m n of_cmap of_map of_count =
    λ i. sequences_of_font (of_cmap i) (mapping_of (of_map i).0 (of_map i).1) (of_count i)

-- a table that is read as it is, but for layout without what varies
read_tag : (s : Settings) (file : List ℕ) (slot : ℕ) → slot ≢ SEQUENCES → (r : Reading) → s.reading slot ≡ r
    → AreSettings s → tables_by (with_sequences s) file slot ≡ read_by r slot (table_of file (slot_tag slot))
read_tag s file slot other r is are =
    (λ i. read_by ((read_there s are slot other ∙ is) i) slot (table_in_file-tag file slot other i))

pub layout_table : (file : List ℕ) (slot : ℕ) → is_layout_slot slot ≡ true
    → tables_of Layout file slot ≡ option_map (fixed slot) (table_of file (slot_tag slot))
unfolding layout_settings
layout_table file slot h =
    read_tag layout_settings file slot (λ e. let no : true ≡ false = sym h ∙ ap is_layout_slot e in cc) unvarying
    (λ i. cond (layout-copied slot h i) absent (cond (h i) unvarying as_it_is)) AreSettings-layout

-- a table that is read as it is
variable_table : (file : List ℕ) (slot : ℕ) → SLOTS ≤ slot → slot < ALL_SLOTS
    → table_of file (slot_tag slot) ≡ tables_of Variable file slot
unfolding variable_settings
variable_table file slot from to =
    let x = ne_eqb slot 1 (λ e. omega arith) in
    let y = ne_eqb slot 5 (λ e. omega arith) in
    let z = ne_eqb slot 6 (λ e. omega arith) in
    let w = ne_eqb slot 9 (λ e. omega arith) in
    let last : nat_le ALL_SLOTS slot ≡ false = lt-leb ALL_SLOTS slot to in
    let copied : is_never_copied slot ≡ false = rw (x, y, z, w) last in
    sym (read_tag variable_settings file slot (λ e. omega (arith, e, to)) as_it_is
    (ap (λ b. cond b absent as_it_is) copied) AreSettings-variable)

pub whole_table : (kind : Kind) (file : List ℕ) (slot : ℕ) → None ≡ fixed_read kind file → SLOTS ≤ slot
    → slot < slots_of kind → table_of file (slot_tag slot) ≡ tables_of kind file slot
whole_table Full file slot none from to = absurd (omega (arith, from, to))
whole_table Lean file slot none from to = absurd (omega (arith, from, to))
whole_table Layout file slot none from to = cc
whole_table Variable file slot none from to = variable_table file slot from to

-- a table that is none of layout is read as it is
pub plain_table : (kind : Kind) (file : List ℕ) (slot : ℕ) → SLOTS ≤ slot → slot < slots_of kind
    → is_layout_slot slot ≡ false → table_of file (slot_tag slot) ≡ tables_of kind file slot
plain_table Full file slot from to plain = absurd (omega (arith, from, to))
plain_table Lean file slot from to plain = absurd (omega (arith, from, to))
plain_table Layout file slot from to plain =
    let t : true ≡ false = sym (λ i. le-leb SLOTS slot from i && lt-ltb slot FIRST_VARIATION to i) ∙ plain in cc
plain_table Variable file slot from to plain = variable_table file slot from to

-- no table that is read lies outside
module _ (file : List ℕ) (inside : first_of_lines (tag_lines LAYOUT_AND_VARIATIONS file) ≡ None) where
  no_tag_outside : (place : ℕ) → place < 13 → is_outside file (get_or LAYOUT_AND_VARIATIONS place (record { 0 = [] }))
      ≡ false
  no_tag_outside place low =
      find-none_at (is_outside file) LAYOUT_AND_VARIATIONS place (record { 0 = [] })
      (tags_inside LAYOUT_AND_VARIATIONS file inside) low

  later_place : (k : ℕ) → k < 7 → is_outside file (slot_tag (k + 22)) ≡ false
  unfolding slot_tag
  later_place zero low = no_tag_outside 5 (omega arith)
  later_place (suc zero) low = no_tag_outside 6 (omega arith)
  later_place (suc (suc zero)) low = no_tag_outside 7 (omega arith)
  later_place (suc (suc (suc zero))) low = no_tag_outside 8 (omega arith)
  later_place (suc (suc (suc (suc zero)))) low = no_tag_outside 9 (omega arith)
  later_place (suc (suc (suc (suc (suc zero))))) low = no_tag_outside 10 (omega arith)
  later_place (suc (suc (suc (suc (suc (suc zero)))))) low = no_tag_outside 11 (omega arith)
  later_place (suc (suc (suc (suc (suc (suc (suc k))))))) low = absurd (omega (arith, low))

  by_place : (k : ℕ) → k < 13 → is_outside file (slot_tag (k + 16)) ≡ false
  unfolding slot_tag
  by_place zero low = no_tag_outside 0 (omega arith)
  by_place (suc zero) low = no_tag_outside 1 (omega arith)
  by_place (suc (suc zero)) low = no_tag_outside 2 (omega arith)
  by_place (suc (suc (suc zero))) low = no_tag_outside 3 (omega arith)
  by_place (suc (suc (suc (suc zero)))) low = no_tag_outside 12 (omega arith)
  by_place (suc (suc (suc (suc (suc zero))))) low = no_tag_outside 4 (omega arith)
  by_place (suc (suc (suc (suc (suc (suc k)))))) low =
      let e : suc (suc (suc (suc (suc (suc k))))) + 16 ≡ k + 22 = omega arith in
      ap (λ (s : ℕ). is_outside file (slot_tag s)) e ∙ later_place k (omega (arith, low))

  variable_not_outside : (slot : ℕ) → SLOTS ≤ slot → slot < ALL_SLOTS → is_outside file (slot_tag slot) ≡ false
  variable_not_outside slot from to =
      let e : slot - 16 + 16 ≡ slot = omega (arith, from) in
      ap (λ (s : ℕ). is_outside file (slot_tag s)) (sym e) ∙ by_place (slot - 16) (omega (arith, from, to))

pub not_outside : (kind : Kind) (file : List ℕ) (slot : ℕ) → tags_fault kind file ≡ None → SLOTS ≤ slot
    → slot < slots_of kind → is_outside file (slot_tag slot) ≡ false
unfolding layout_settings variable_settings layout_directory_fault
not_outside Full file slot inside from to = absurd (omega (arith, from, to))
not_outside Lean file slot inside from to = absurd (omega (arith, from, to))
not_outside Layout file slot inside from to = layout_not_outside file slot inside from to
not_outside Variable file slot inside from to = variable_not_outside file inside slot from to

-- a refusal by the directory is that of the font
pub tags_refused : (kind : Kind) (file : List ℕ) (error : DirError) → font_fault file ≡ None
    → tags_fault kind file ≡ Some error → fault_of kind file ≡ Some (Directory error)
unfolding fault_by
tags_refused kind file error accepted refused =
    λ i. option_or (accepted i) (first_of_lines (option_map Directory (refused i)
    ∷ when (is_bad_variations_in (tables_of kind file)) BadVariations ∷ []))

-- then the one by the tables that are divided
pub tables_fault : (kind : Kind) (file : List ℕ) → font_fault file ≡ None → tags_fault kind file ≡ None
    → (bad : Bool) → has_refused (tables_of kind file) ≡ bad → fault_of kind file ≡ when bad BadVariations
unfolding fault_by
tables_fault kind file accepted inside bad refused =
    (λ i. option_or (accepted i) (first_of_lines (option_map Directory (inside i)
    ∷ when ((sym (refused-is (tables_of kind file)) ∙ refused) i) BadVariations ∷ [])))
    ∙ end bad
  where
    end : (b : Bool) → first_of_lines (when b BadVariations ∷ []) ≡ when b BadVariations
    end true = refl
    end false = refl
