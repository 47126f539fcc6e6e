-- What an accepted file means is a font.
use Rattle.std.proofs.Common.{◌≡◌, ◌≢◌, ℕ, ◌<◌, ◌≤◌, true, false, nat_lt, inl, inr, List, [], length, get_or, refl, sym}
use Rattle.std.proofs.Common.{◌∙◌, ap, subst, arith, unwrap_or, Option, Some, None}
use Rattle.std.specs.Option.{option_map, option_map_or, option_or}
use Rattle.std.proofs.lemmas.Bool.{cases_Bool, cases_lt, le-ltb, lt-ltb, ltb-false}
use Rattle.sfnt_bytes.specs.Directory.{table_of}
use Rattle.sfnt_bytes.specs.Refusals.{directory_fault}
use Rattle.sfnt_bytes.specs.declared.directory.DirError.TheVariants.{FileTooLarge}
use Rattle.sfnt_bytes.specs.declared.directory.TheConstants.{MAX_FILE}
use Rattle.sfnt_bytes.proofs.RefusalLemmas.{is_readable}
use Rattle.sfnt_bytes.proofs.LineLemmas.{first_of_lines-none_at, when-none}
use Rattle.font_tables.specs.Fields.{glyph_count_of, metric_count_of, num_glyphs, number_of_h_metrics}
use Rattle.font_tables.specs.Metrics.{metric_in, metric_of}
use Rattle.font_tables.specs.Refusals.{is_bad_head, is_bad_hhea, is_bad_hmtx, is_bad_maxp, table_fault, table_lines}
use Rattle.font_tables.specs.Tables.{head_of, hhea_of, hmtx_of, maxp_of, table_or_empty}
use Rattle.font_tables.specs.declared.tables.TableError.{TableError}
use Rattle.font_tables.specs.declared.tables.TableError.TheVariants.{BadHead, BadHhea, BadHmtx, BadMaxp}
use Rattle.font_tables.proofs.SlotLemmas.{are_slots}
use Rattle.font_tables.proofs.TableLemmas.{is_measured}
use Rattle.font_map.specs.Cmap.{chosen_record, subtable_at}
use Rattle.font_map.specs.Mapping.{listed_glyph, mapping_of}
use Rattle.font_map.proofs.MappingLemmas.{mapping_of-small}
use Rattle.codes.proofs.PieceLemmas.{clipped_past}
use Rattle.font_file.specs.Font.{cmap_of, font_fault, map_of}
use Rattle.font_file.specs.declared.font_error.FontError.{FontError}
use Rattle.font_file.specs.declared.font_error.FontError.TheVariants.{Directory, Tables}
use Rattle.font_file.proofs.FontLemmas.{directory_fault-accepted, font_fault_is, is_record-accepted}
use Rattle.font_theory.specs.Content.{CODES, IsFont, IsPlain, glyph_count, is_made, is_never_copied, metric_count}
use Rattle.font_theory.specs.Content.{plain_font, table_in_slot}
use Rattle.font_theory.proofs.LinkLemmas.{is_bad_variations_in-none, never-in_plain, filled-never, never-layout}
use Rattle.font_theory.proofs.SequencePartLemmas.{good_none}
use Rattle.font_theory.proofs.CutHeadLemmas.{cut_head-cut_head, head-size, is_bad_head-cut_head}
use Rattle.font_theory.proofs.PaddedLemmas.{IsRecord-nil}

no_tables : (directory tables rest : Option FontError) → option_or directory (option_or tables rest) ≡ None
    → tables ≡ None
no_tables None None rest h = refl
no_tables None (Some error) rest h = cc
no_tables (Some error) tables rest h = cc

-- the tables of an accepted file are not refused
pub table_fault-accepted : (file : List ℕ) → font_fault file ≡ None → table_fault file ≡ None
table_fault-accepted file accepted =
    none (table_fault file) (no_tables (option_map Directory (directory_fault file))
    (option_map Tables (table_fault file)) _ (sym (font_fault_is file) ∙ accepted))
  where
    none : (o : Option TableError) → option_map Tables o ≡ None → o ≡ None
    none None h = refl
    none (Some error) h = cc

-- the tables in the slots of a font are those of the file's tags
pub hhea-slot : (file : List ℕ) → table_in_slot (plain_font file).copied 7 ≡ hhea_of file
unfolding table_or_empty
hhea-slot file = ap (λ tag. unwrap_or (table_of file tag) []) are_slots.hhea

pub hmtx-slot : (file : List ℕ) → table_in_slot (plain_font file).copied 8 ≡ hmtx_of file
unfolding table_or_empty
hmtx-slot file = ap (λ tag. unwrap_or (table_of file tag) []) are_slots.hmtx

maxp-slot : (file : List ℕ) → table_in_slot (plain_font file).copied 10 ≡ maxp_of file
unfolding table_or_empty
maxp-slot file = ap (λ tag. unwrap_or (table_of file tag) []) are_slots.maxp

pub glyph_count-file : (file : List ℕ) → glyph_count (plain_font file).copied ≡ glyph_count_of file
unfolding glyph_count glyph_count_of
glyph_count-file file = ap num_glyphs (maxp-slot file)

pub metric_count-file : (file : List ℕ) → metric_count (plain_font file).copied ≡ metric_count_of file
unfolding metric_count metric_count_of
metric_count-file file = ap number_of_h_metrics (hhea-slot file)

-- files with the same copied tables have the same metrics
pub metric_of-same : (file other : List ℕ) → (plain_font other).copied ≡ (plain_font file).copied → (g : ℕ)
    → metric_of other g ≡ metric_of file g
unfolding metric_of
metric_of-same file other same g =
    let table : table_in_slot (plain_font other).copied 8 ≡ table_in_slot (plain_font file).copied 8 =
    ap (λ copied. table_in_slot copied 8) same in
    let count : metric_count (plain_font other).copied ≡ metric_count (plain_font file).copied = ap metric_count same in
    (λ i. metric_in ((sym (hmtx-slot other) ∙ table ∙ hmtx-slot file) i) ((sym (metric_count-file other) ∙ count
    ∙ metric_count-file file) i) g)

-- no table of an accepted file is bad
pub record AreSound (file : List ℕ) : Type 0 where
  pub head : is_bad_head (head_of file) ≡ false
  pub maxp : is_bad_maxp (maxp_of file) ≡ false
  pub hhea : is_bad_hhea (hhea_of file) (glyph_count_of file) ≡ false
  pub hmtx : is_bad_hmtx (hmtx_of file) (metric_count_of file) (glyph_count_of file) ≡ false

pub are_sound : (file : List ℕ) → table_fault file ≡ None → AreSound file
unfolding table_fault
are_sound file no_fault =
    let line : (k : ℕ) → get_or (table_lines file) k None ≡ None =
    λ k. first_of_lines-none_at (table_lines file) k no_fault in
    record {
      head = when-none _ BadHead (line 1);
      maxp = when-none _ BadMaxp (line 2);
      hhea = when-none _ BadHhea (line 3);
      hmtx = when-none _ BadHmtx (line 4);
    }

map_of-below : (file : List ℕ) (c : ℕ) → 0 < glyph_count_of file → map_of file c < glyph_count_of file
map_of-below file c some = elim (mapping_of-small (cmap_of file) (glyph_count_of file) c) [
  | inl none ↦
      omega (arith, some, none)
  | inr low ↦ low
]

map_of-past : (file : List ℕ) (c : ℕ) → CODES ≤ c → map_of file c ≡ 0
unfolding mapping_of CODES
map_of-past file c past =
    clipped_past (glyph_count_of file) (λ x. option_map_or (λ k. listed_glyph (subtable_at (cmap_of file) k) x)
    (chosen_record (cmap_of file)) 0) c past

-- what no cut copies, a plain one does not copy
pub never-made : (slot : ℕ) → is_never_copied slot ≡ true → is_made slot ≡ true
never-made slot h = never-in_plain slot (never-layout slot h)

-- and a plain reader gives no table of layout
pub IsPlain-font_of : (file : List ℕ) → IsPlain (plain_font file).copied
IsPlain-font_of file slot made = rw made refl

pub IsFont-accepted : (file : List ℕ) → font_fault file ≡ None → IsFont (plain_font file)
IsFont-accepted file accepted =
    let no_fault = table_fault-accepted file accepted in
    let sound = are_sound file no_fault in
    let n = glyph_count-file file in
    record {
      mapped_below = λ c. rw n (map_of-below file c (is_measured file no_fault).glyphs);
      mapped_codes = λ c past. map_of-past file c past;
      records = λ g. elim (cases_lt g (glyph_count_of file)) [
        | inl low ↦ let t = lt-ltb g (glyph_count_of file) low in rw (t, n) (is_record-accepted file g accepted low)
        | inr past ↦ let f = le-ltb g (glyph_count_of file) past in rw f (IsRecord-nil _)
      ];
      slots = λ slot never. IsPlain-font_of file slot (never-made slot (filled-never slot never));
      unparted = λ _ _ _. refl;
      there_below = λ g h. cc;
      head_form = cut_head-cut_head (head_of file) (head-size (head_of file) sound.head);
      head = is_bad_head-cut_head (head_of file) sound.head;
      maxp = subst (λ (b : List ℕ). is_bad_maxp b ≡ false) (sym (maxp-slot file)) sound.maxp;
      hhea = (λ i. is_bad_hhea (hhea-slot file i) (n i)) ∙ sound.hhea;
      hmtx = (λ i. is_bad_hmtx (hmtx-slot file i) (metric_count-file file i) (n i)) ∙ sound.hmtx;
      variations = is_bad_variations_in-none (plain_font file).copied refl;
      sequences = good_none (glyph_count (plain_font file).copied);
    }

-- a file that is accepted, or refused for another reason, is not too large
pub size-accepted : (file : List ℕ) → font_fault file ≡ None → length file ≤ MAX_FILE
size-accepted file accepted = (is_readable file (directory_fault-accepted file accepted)).small

too_large : (file : List ℕ) → nat_lt MAX_FILE (length file) ≡ true → font_fault file ≡ Some (Directory FileTooLarge)
unfolding font_fault
too_large file h = rw h refl

pub size-refused : (file : List ℕ) (error : FontError) → font_fault file ≡ Some error → error ≢ Directory FileTooLarge
    → length file ≤ MAX_FILE
size-refused file error refused other =
    elim (cases_Bool (nat_lt MAX_FILE (length file))) [
      | inl large ↦ let e : Some (Directory FileTooLarge) ≡ Some error = sym (too_large file large) ∙ refused in
          let same : error ≡ Directory FileTooLarge = cc in absurd (other same)
      | inr small ↦ ltb-false _ _ small
    ]
