-- A font without variation sequences has the cuts that it has where none are kept.
use Rattle.std.proofs.Common.{◌≡◌, ◌≢◌, ℕ, zero, suc, ◌+◌, ◌<◌, ◌≤◌, cond, ◌&&◌, nat_eq, nat_lt, List, [], ◌∷◌, map}
use Rattle.std.proofs.Common.{Option, Some, None, refl, ap, subst, sym, ◌∙◌, arith, inl, inr, is_some, unwrap_or}
use Rattle.std.specs.List.{range_with_len}
use Rattle.std.specs.Option.{option_map, option_map_or}
use Rattle.std.proofs.Math.Path.{fun_ext}
use Rattle.std.proofs.lemmas.Bool.{both_ways, cases_eq}
use Rattle.sfnt_bytes.specs.Directory.{slot_at}
use Rattle.sfnt_bytes.specs.Lines.{said_lines, when}
use Rattle.sfnt_bytes.specs.Sums.{adjustment_of, checksum_of}
use Rattle.sfnt_bytes.specs.declared.tag.TheConstants.{ALL_SLOTS, CMAP, GLYF, HEAD, LOCA, MAXP}
use Rattle.sfnt_bytes.proofs.PlaceLemmas.{slot_at_low}
use Rattle.font_tables.specs.Fields.{num_glyphs}
use Rattle.codes.specs.Runs.{groups_from}
use Rattle.font_glyph.specs.RecordMap.{record_in}
use Rattle.variation_sequences.specs.Pairs.{part_of}
use Rattle.variation_sequences.specs.declared.variant.Pair.{Pair}
use Rattle.font_theory.specs.Bytes.{padded, with_adjustment}
use Rattle.font_theory.specs.Content.{Content, Font, IsFont, Wanted, content, glyph_count, is_bad_variations_in}
use Rattle.font_theory.specs.Content.{is_kept, plain_font, table_in_slot}
use Rattle.font_theory.specs.Cut.{cut}
use Rattle.font_theory.specs.File.{Table, Writing, adjustment_in, bytes_in_slot, cmap_with_sequences, current_writing}
use Rattle.font_theory.specs.File.{file, file_of, glyf_bytes, groups_of_content, loca_bytes, outlines_of}
use Rattle.font_theory.specs.File.{table_at_place, tables_from}
use Rattle.font_theory.specs.Kinds.{AreSettings, Settings, fault_by, font_by, format_by, has_record, read_by, reduced}
use Rattle.font_theory.specs.Kinds.{sequences_of_file, table_in_file, tables_by, there_by, with_sequences}
use Rattle.font_theory.specs.Kinds.Reading.{absent}
use Rattle.font_theory.specs.OrderedPairs.{merged}
use Rattle.font_theory.specs.Parted.{sequences}
use Rattle.font_theory.specs.Parting.{Tables, context, may_divide, parts_of}
use Rattle.font_theory.specs.SequenceTable.{pairs_among, pairs_of_parts, sequence_table, sequences_in}
use Rattle.font_theory.specs.declared.kinds.TheConstants.{SEQUENCES}
use Rattle.font_theory.proofs.ContentLemmas.{nothing_either}
use Rattle.font_theory.proofs.DividedLemmas.{reduced-is}
use Rattle.font_theory.proofs.PartLemmas.{AreAlike, context-alike, glyph_count-alike, is_kept-alike, parts_of-none}
use Rattle.font_theory.proofs.SequencePartLemmas.{part-none}
use Rattle.font_theory.proofs.SequenceSettingsLemmas.{AreSettings-sequences, divided_there, read_there}
use Rattle.font_theory.proofs.SequenceTableLemmas.{sequences_in-none}
use Rattle.font_theory.proofs.SettingsLemmas.{IsFont-by}
use Rattle.font_theory.proofs.SlotLemmas.{table_with}

-- lists of places below the last one
places-same : (f g : ℕ → Option Table) → ((place : ℕ) → place < ALL_SLOTS → f place ≡ g place) → (k n : ℕ)
    → k + n ≤ ALL_SLOTS → map f (range_with_len k n) ≡ map g (range_with_len k n)
places-same f g same k zero few = refl
places-same f g same k (suc n) few =
    λ i. same k (omega (arith, few)) i ∷ places-same f g same (k + 1) n (omega (arith, few)) i

-- a file is of the tables of the tags, of the bytes of sequences, and of what else is written
module _ (writing : Writing) (K L : Content) (copied : (slot : ℕ) → slot ≢ SEQUENCES → K.copied slot ≡ L.copied slot)
    (table : table_in_slot K.copied SEQUENCES ≡ table_in_slot L.copied SEQUENCES) (head : K.head ≡ L.head)
    (codes : K.map ≡ L.map) (outline : K.outline ≡ L.outline) where
  same_count : glyph_count K.copied ≡ glyph_count L.copied
  unfolding glyph_count
  same_count = ap (λ (o : Option (List ℕ)). num_glyphs (unwrap_or o [])) (copied MAXP (λ e. omega (arith, e)))

  same_groups : groups_of_content K ≡ groups_of_content L
  unfolding groups_of_content
  same_groups = ap (λ (m : ℕ → ℕ). groups_from m 0) codes

  same_outlines : outlines_of K ≡ outlines_of L
  unfolding outlines_of
  same_outlines = λ i. map (record_in (outline i)) (range_with_len 0 (same_count i))

  same_bytes : (h : List ℕ) (slot : ℕ) → slot ≢ SEQUENCES
      → bytes_in_slot writing K h slot ≡ bytes_in_slot writing L h slot
  unfolding bytes_in_slot
  same_bytes h slot other = λ i.
      cond (nat_eq slot CMAP) (Some (cmap_with_sequences writing (same_groups i) (table i)))
      (cond (nat_eq slot GLYF) (Some (glyf_bytes writing (same_outlines i)))
      (cond (nat_eq slot HEAD) (Some h)
      (cond (nat_eq slot LOCA) (Some (loca_bytes (same_outlines i))) (copied slot other i))))

  same_place : (h : List ℕ) (place : ℕ) → place < ALL_SLOTS
      → table_at_place writing K h place ≡ table_at_place writing L h place
  same_place h place low =
      let below = slot_at_low place low in
      ap (option_map (table_with (slot_at place))) (same_bytes h (slot_at place) (λ e. omega (arith, e, below)))

  same_tables : (h : List ℕ) → tables_from writing K h 0 ALL_SLOTS ≡ tables_from writing L h 0 ALL_SLOTS
  same_tables h =
      ap said_lines (places-same (table_at_place writing K h) (table_at_place writing L h) (same_place h) 0 ALL_SLOTS
      (omega arith))

  pub file-tables : file writing K ≡ file writing L
  unfolding file adjustment_in
  file-tables = λ i. file_of (same_tables
      (with_adjustment (adjustment_of (checksum_of (file_of (same_tables (head i) i)))) (head i)) i)

-- parts of no bytes have no pairs
no_pair : (n g : ℕ) → part_of (sequences_in n []) g ≡ []
no_pair n g = ap (λ (ps : List Pair). part_of ps g) (sequences_in-none n) ∙ part-none g

no_pairs_among : (n : ℕ) (gs : List ℕ) → pairs_among n (λ _. []) gs ≡ []
no_pairs_among n [] = refl
no_pairs_among n (g ∷ gs) = λ i. merged (no_pair n g i) (no_pairs_among n gs i)

no_part : (c : Tables) (g : ℕ) → sequences.part c [] g ≡ []
unfolding sequences sequence_table
no_part c g = ap sequence_table (no_pair (glyph_count c) g)

no_whole : (c : Tables) (frame : List ℕ) (parts : ℕ → List ℕ) → ((g : ℕ) → parts g ≡ [])
    → sequences.whole c frame parts ≡ []
unfolding sequences sequence_table pairs_of_parts
no_whole c frame parts none =
    ap (λ (p : ℕ → List ℕ). sequence_table (pairs_of_parts (glyph_count c) p)) (fun_ext none)
    ∙ ap sequence_table (no_pairs_among (glyph_count c) (range_with_len 0 (glyph_count c)))

module _ (s : Settings) (is : AreSettings s) (unread : s.reading SEQUENCES ≡ absent) (X : List ℕ)
    (none : sequences_of_file X ≡ []) where
  abbrev t : Settings
  t = with_sequences s

  also : AreSettings t
  also = AreSettings-sequences s is

  abbrev c : Tables
  c = tables_by s X

  abbrev d : Tables
  d = tables_by t X

  same_table : (slot : ℕ) → slot ≢ SEQUENCES → d slot ≡ c slot
  same_table slot other = ap (λ r. read_by r slot (table_in_file X slot)) (read_there s is slot other)

  empty : d SEQUENCES ≡ Some []
  empty = ap Some none

  absent_there : c SEQUENCES ≡ None
  absent_there = ap (λ r. read_by r SEQUENCES (table_in_file X SEQUENCES)) unread

  alike : AreAlike c d
  alike slot f = same_table slot (λ e. both_ways _ f (ap may_divide e))

  around : context d ≡ context c
  around = context-alike c d alike

  count : glyph_count d ≡ glyph_count c
  count = glyph_count-alike c d alike

  -- the same parts
  part_there : (g slot : ℕ) → slot ≢ SEQUENCES → parts_of t.partition d slot g ≡ parts_of s.partition c slot g
  unfolding parts_of
  part_there g slot other = λ i. cond (nat_lt g (count i))
      (option_map_or (λ x. (divided_there s is slot other i).part (around i) x g) (same_table slot other i) []) []

  part_here : (g : ℕ) → parts_of t.partition d SEQUENCES g ≡ []
  unfolding parts_of
  part_here g =
      ap (λ o. cond (nat_lt g (glyph_count d)) (option_map_or (λ x. sequences.part (context d) x g) o []) []) empty
      ∙ nothing_either (nat_lt g (glyph_count d)) _ (no_part (context d) g)

  same_part : (g slot : ℕ) → parts_of t.partition d slot g ≡ parts_of s.partition c slot g
  same_part g slot = elim (cases_eq slot SEQUENCES) [
    | inl e ↦ subst (λ (k : ℕ). parts_of t.partition d k g ≡ parts_of s.partition c k g) (sym e)
        (part_here g ∙ sym (parts_of-none s.partition c SEQUENCES g absent_there))
    | inr other ↦ part_there g slot other
  ]

  same_there : (font_by t X).there ≡ (font_by s X).there
  unfolding there_by
  same_there = λ i g. s.by_number
      && (nat_lt g (count i) && has_record ((plain_font X).outline g) (λ slot. same_part g slot i))

  -- the same refusals
  pub fault-unsequenced : fault_by t X ≡ fault_by s X
  unfolding fault_by is_bad_variations_in glyph_count
  fault-unsequenced = refl

  module _ (accepted : fault_by s X ≡ None) (A : Wanted) where
    abbrev F : Font
    F = font_by s X

    abbrev G : Font
    G = font_by t X

    okF : IsFont F
    okF = IsFont-by s is X accepted

    okG : IsFont G
    okG = IsFont-by t also X (fault-unsequenced ∙ accepted)

    kept : is_kept G A ≡ is_kept F A
    kept = is_kept-alike F G alike refl refl same_there A

    abbrev K : Content
    K = reduced t.partition (content G A)

    abbrev L : Content
    L = reduced s.partition (content F A)

    same_copied : (slot : ℕ) → slot ≢ SEQUENCES → K.copied slot ≡ L.copied slot
    unfolding reduced
    same_copied slot other = λ i.
        option_map (λ x. (divided_there s is slot other i).whole (around i)
        ((divided_there s is slot other i).frame (around i) x)
        (λ g. cond (is_some (when (kept i g) (padded (F.outline g))))
        ((divided_there s is slot other i).part (around i) x g) [])) (same_table slot other i)

    same_sequences : table_in_slot K.copied SEQUENCES ≡ table_in_slot L.copied SEQUENCES
    unfolding reduced
    same_sequences =
        ap (λ o. unwrap_or (option_map (λ x. sequences.whole (context d) (sequences.frame (context d) x)
        (λ g. cond (is_some ((content G A).outline g)) (sequences.part (context d) x g) [])) o) []) empty
        ∙ no_whole (context d) _ _ (λ g. nothing_either (is_some ((content G A).outline g)) _ (no_part (context d) g))
        ∙ sym (ap (λ o. unwrap_or (option_map (λ x. (s.partition SEQUENCES).whole (context c)
        ((s.partition SEQUENCES).frame (context c) x)
        (λ g. cond (is_some ((content F A).outline g)) ((s.partition SEQUENCES).part (context c) x g) [])) o) [])
        absent_there)

    same_outline : K.outline ≡ L.outline
    unfolding reduced
    same_outline = λ i g. when (kept i g) (padded (F.outline g))

    same_head : K.head ≡ L.head
    unfolding reduced
    same_head = refl

    same_map : K.map ≡ L.map
    unfolding reduced
    same_map = refl

    pub cut-unsequenced : cut (format_by t) X A ≡ cut (format_by s) X A
    unfolding format_by
    cut-unsequenced =
        ap (file current_writing) (reduced-is t.partition also.partition G okG A)
        ∙ file-tables current_writing K L same_copied same_sequences same_head same_map same_outline
        ∙ sym (ap (file current_writing) (reduced-is s.partition is.partition F okF A))
