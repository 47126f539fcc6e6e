-- What a cut that was made holds of its font.
use Rattle.std.proofs.Common.{◌≡◌, ◌≢◌, ℕ, ◌≤◌, ◌&&◌, Bool, List, length, Option, None, Result, Ok, Err, IfErr}
use Rattle.std.proofs.Common.{MatchResult, OnOk, cond, [], true, false, inl, refl, sym, subst, ◌∙◌, ap}
use Rattle.std.proofs.Math.Path.{fun_ext}
use Rattle.std.specs.Result.{IsErrAnd}
use Rattle.sfnt_bytes.specs.Directory.{slot_tag, table_of}
use Rattle.sfnt_bytes.specs.Findings.{findings_of}
use Rattle.sfnt_bytes.specs.declared.directory.TheConstants.{MAX_FILE}
use Rattle.font_file.specs.Font.{font_fault}
use Rattle.font_theory.specs.Content.{Content, Font, Wanted, content, is_kept, of_codes, plain_font, read_back}
use Rattle.font_theory.specs.Cut.{Format, IsCurrent, IsFormat, cut, our_format}
use Rattle.font_theory.specs.Cut.Arises.{of_file}
use Rattle.font_theory.specs.File.{file, current_writing}
use Rattle.font_theory.proofs.ContentLemmas.{IsClosed-content, content-none}
use Rattle.font_theory.proofs.CutLemmas.{IsCurrent-cut, cut-cut}
use Rattle.font_theory.proofs.FileWantedLemmas.{map_of-wanted, outline_of-wanted}
use Rattle.font_theory.proofs.FindingLemmas.{findings_of-file}
use Rattle.font_theory.proofs.FontLemmas.{IsFont-accepted, metric_of-same}
use Rattle.font_theory.proofs.OurFormatLemmas.{our_format-is}
use Rattle.font_theory.proofs.WritableLemmas.{IsWritable-closed}
use Rattle.codes.specs.declared.code_range.CodeRange.{CodeRange}
use Rattle.font_theory.specs.declared.kinds.Kind.{Kind}
use Rattle.font_theory.specs.declared.kinds.Kind.TheVariants.{Full, Layout, Lean, Variable}
use Rattle.font_theory.specs.Kinds.{fault_of, font_of, format_by, format_of, partition_of, reduced, settings, tables_of}
use Rattle.font_theory.specs.Parting.{Partition, frames, parts_of}
use Rattle.font_theory.proofs.KindFileLemmas.{findings_of-cut, font_by-cut, map_of-by, metric_of-by, outline_of-by}
use Rattle.font_theory.proofs.KindFileLemmas.{outline_of-number, parts-by}
use Rattle.font_theory.proofs.KindFileLemmas.{table_of-cut, table_of-undivided}
use Rattle.font_theory.proofs.KindLeanLemmas.{current-full, length-lean_cut}
use Rattle.font_theory.proofs.KindLemmas.{divides, full-is, full_fault-is, lean_fault-is, settings-are}
use Rattle.font_theory.proofs.SettingsLemmas.{IsKind-by}
use Rattle.font_subset.specs.KeptGlyphs.{asked, wanted_in, written_content}
use Rattle.font_subset.specs.CutOfKind.{IsLeanSound, IsSoundAs, IsSoundIn, cut_of}
use Rattle.font_subset.proofs.SourceLemmas.{Held}
use Rattle.font_subset.specs.CutOfFont.{IsCutRefusal, IsSound, IsWritten, StopsCut, full_cut}
use Rattle.font_write.specs.WholeFile.{IsFileRefusal, StopsFile}
use Rattle.font_write.specs.declared.cut_error.CutError.{CutError}
use Rattle.font_write.specs.declared.cut_error.CutError.TheVariants as cut_errors
use Rattle.font_write.specs.declared.cut_error.CutIntoError.{CutIntoError}
use Rattle.font_write.specs.declared.cut_error.CutIntoError.TheVariants as into_errors
use Rattle.streams.specs.declared.outlet.Outlet.{Outlet}

-- an error that a `?` passes on
pub passed_on : {T E : Type 0} (P : T → Type 0) (Q : E → Type 0) (r : Result T E) (error : E)
    → IsErrAnd r (λ e. e ≡ error) → Q error → MatchResult r P Q
passed_on P Q (Ok x) error is h = absurd is
passed_on P Q (Err e) error is h = subst Q (sym is) h

-- a cut in memory, or why there is none, in the words of its file
pub answers_cut : {V : Type 0} (items : V → List ℕ) (whole : List ℕ) (r : Result V CutError)
    → MatchResult r (λ v. IsWritten whole (items v)) (IsFileRefusal whole)
    → MatchResult r (λ v. IsWritten whole (items v)) (IsCutRefusal whole)
answers_cut items whole (Ok v) h = h
answers_cut items whole (Err cut_errors.NoMemory) h = tt
answers_cut items whole (Err (cut_errors.TooLarge size)) h = h

-- why a cut is not sent, in the words of its file, for which no memory is asked
pub stops_cut : {V W : Type 0} (contents : W → Option (List ℕ)) (old new : Outlet W) (whole : List ℕ)
    (r : Result V CutIntoError) → IfErr r (StopsFile contents old new whole) → IfErr r (StopsCut contents old new whole)
stops_cut contents old new whole (Ok v) h = h
stops_cut contents old new whole (Err into_errors.NoMemory) h = absurd h
stops_cut contents old new whole (Err (into_errors.TooLarge size)) h = h
stops_cut contents old new whole (Err (into_errors.WriteFault written)) h = h

pub asks_none : {V W : Type 0} (contents : W → Option (List ℕ)) (old new : Outlet W) (whole : List ℕ)
    (r : Result V CutIntoError) → IfErr r (StopsFile contents old new whole) → r ≢ Err into_errors.NoMemory
asks_none contents old new whole (Ok v) h e = cc
asks_none contents old new whole (Err into_errors.NoMemory) h e = absurd h
asks_none contents old new whole (Err (into_errors.TooLarge size)) h e = cc
asks_none contents old new whole (Err (into_errors.WriteFault written)) h e = cc

-- what holds of an answer, where it follows from what holds of it
pub on_answer : {V E P Q : Type 0} (r : Result V E) → OnOk r P → (P → Q) → OnOk r Q
on_answer (Ok v) p f = f p
on_answer (Err e) p f = p

-- a full cut is the cut of the plain reader
cut_full : (file_bytes : List ℕ) (wanted : ℕ → Bool)
    → full_cut file_bytes wanted ≡ cut our_format file_bytes (of_codes wanted)
cut_full file_bytes wanted = λ i. cut (full-is i) file_bytes (of_codes wanted)

-- the cut of an accepted file is the file of its content
plain_cut_is : (file_bytes : List ℕ) (wanted : Wanted)
    → cut our_format file_bytes wanted ≡ file current_writing (content (plain_font file_bytes) wanted)
unfolding our_format
plain_cut_is file_bytes wanted = refl

pub cut_of_is : (file_bytes : List ℕ) (wanted : ℕ → Bool)
    → full_cut file_bytes wanted ≡ file current_writing (content (plain_font file_bytes) (of_codes wanted))
cut_of_is file_bytes wanted = cut_full file_bytes wanted ∙ plain_cut_is file_bytes (of_codes wanted)

-- in the words of any reader and writer
is_current_of : (font made : List ℕ) (wanted : ℕ → Bool) → font_fault font ≡ None
    → made ≡ cut our_format font (of_codes wanted) → length made ≤ MAX_FILE
    → IsCurrent our_format made
    × ((others : ℕ → Bool) → cut our_format made (of_codes others)
    ≡ cut our_format font (of_codes (λ c. wanted c && others c)))
unfolding our_format
is_current_of font made wanted accepted is small = (
  IsCurrent-cut our_format our_format-is font accepted (of_codes wanted) made is small,
  λ others. cut-cut our_format our_format-is font accepted (of_codes wanted) made (inl (sym is)) small (of_codes others)
      ∙ ap (λ (w : ℕ → Bool). cut our_format font (record { codes = λ c. wanted c && others c; glyphs = w }))
      (fun_ext (λ g. nothing (is_kept (plain_font font) (of_codes wanted) g))),
)
  where
    nothing : (b : Bool) → (b && false) ≡ false
    nothing true = refl
    nothing false = refl

-- what is read of it
font_of-cut : (font made : List ℕ) (wanted : Wanted) → font_fault font ≡ None → made ≡ cut our_format font wanted
    → length made ≤ MAX_FILE → (font_fault made ≡ None)
    × (plain_font made ≡ read_back (content (plain_font font) wanted))
unfolding our_format
font_of-cut font made wanted accepted is small =
    our_format-is.reads_back (content (plain_font font) wanted) made (of_file font wanted accepted refl) (inl (sym is))
    small

pub is_sound : (font made : List ℕ) (wanted : ℕ → Bool) → font_fault font ≡ None → IsWritten (full_cut font wanted) made
    → IsSound font wanted made
is_sound font made wanted accepted written =
    let K : Content = content (plain_font font) (of_codes wanted) in
    let ok = IsWritable-closed K
    (IsClosed-content (plain_font font) (of_codes wanted) (IsFont-accepted font accepted)) in
    let is = written.is ∙ cut_full font wanted in
    let read = font_of-cut font made (of_codes wanted) accepted is written.small in
    let cuts = is_current_of font made wanted accepted is written.small in
    record {
      accepted = read.0;
      clean = ap findings_of (written.is ∙ cut_of_is font wanted) ∙ findings_of-file current_writing K ok;
      metrics = metric_of-same font made (ap (λ (F : Font). F.copied) read.1);
      copied = λ slot. ap (λ (F : Font). F.copied slot) read.1;
      wanted_codes = map_of-wanted font made (of_codes wanted) accepted read.1;
      other_codes = λ c out. ap (λ (F : Font). F.map c) read.1 ∙ rw out refl;
      kept = outline_of-wanted font made (of_codes wanted) accepted read.1;
      cut_form = subst (λ R. IsCurrent R made) (sym full-is) cuts.0;
      cuts = λ others. cut_full made others ∙ cuts.1 others ∙ sym (cut_full font (λ c. wanted c && others c));
    }

-- what a cut of a kind holds of its font
module _ (kind : Kind) (font made : List ℕ) (wanted : Wanted) (accepted : fault_of kind font ≡ None)
    (written : IsWritten (cut_of kind font wanted) made) where
  abbrev p : Partition
  p = partition_of kind

  read : (fault_of kind made ≡ None)
      × (font_of kind made ≡ read_back (reduced p (content (font_of kind font) wanted)))
  read = subst (λ (b : List ℕ). (fault_of kind b ≡ None)
      × (font_of kind b ≡ read_back (reduced p (content (font_of kind font) wanted)))) (sym written.is)
      (font_by-cut (settings kind) (settings-are kind) font accepted wanted
      (subst (λ (b : List ℕ). length b ≤ MAX_FILE) written.is written.small))

  law : IsFormat (format_of kind)
  law = (IsKind-by (settings kind) (settings-are kind)).law

  is_accepted : (format_of kind).fault font ≡ None
  unfolding format_by
  is_accepted = accepted

  is_small : length made ≤ (format_of kind).limit
  unfolding format_by
  is_small = written.small

  same_frames : (slot : ℕ) → frames p (tables_of kind made) slot ≡ frames p (tables_of kind font) slot
  unfolding format_by
  same_frames slot = ap (λ (F : Font). F.copied slot)
      (law.reads_back (content ((format_of kind).font font) wanted) made (of_file font wanted is_accepted refl)
      (inl (sym written.is)) is_small).1

  other_code : (c : ℕ) → wanted.codes c ≡ false → (font_of kind made).map c ≡ 0
  unfolding reduced
  other_code c out = ap (λ (F : Font). F.map c) read.1 ∙ rw out refl

  table_here : (slot : ℕ) (o : Option (List ℕ)) → table_of (cut_of kind font wanted) (slot_tag slot) ≡ o
      → table_of made (slot_tag slot) ≡ o
  table_here slot o e = ap (λ (b : List ℕ). table_of b (slot_tag slot)) written.is ∙ e

  pub sound_as : IsSoundAs kind font wanted made
  sound_as =
      let s = settings kind in
      let is = settings-are kind in
      record {
        accepted = read.0;
        clean = ap findings_of written.is ∙ findings_of-cut s is font accepted wanted;
        wanted_codes = map_of-by s is font accepted wanted made read.1;
        other_codes = other_code;
        kept = outline_of-by s is font accepted wanted made read.1;
        kept_glyphs = outline_of-number s is font accepted wanted made read.1;
        metrics = metric_of-by s is font accepted wanted made read.1 (divides kind).hmtx;
        parts = λ g kept slot. parts-by s is font accepted wanted made read.1 slot g
            ∙ ap (λ b. cond b (parts_of p (tables_of kind font) slot g) []) kept;
        no_parts = λ g dropped slot. parts-by s is font accepted wanted made read.1 slot g
            ∙ ap (λ b. cond b (parts_of p (tables_of kind font) slot g) []) dropped;
        frames = same_frames;
        tables = λ slot f. table_here slot _ (table_of-cut s is font accepted wanted slot f);
        undivided = λ slot f e. table_here slot _ (table_of-undivided s is font accepted wanted slot f e);
        form = IsCurrent-cut (format_of kind) law font is_accepted wanted made written.is is_small;
        cuts = λ others. cut-cut (format_of kind) law font is_accepted wanted made (inl (sym written.is)) is_small
            others;
      }

-- where codes alone are wanted, a cut is its own cut for its codes alone
by_codes : (kind : Kind) (font made : List ℕ) (wanted : Wanted) → IsWritten (cut_of kind font wanted) made
    → IsSoundAs kind font wanted made → ((g : ℕ) → wanted.glyphs g ≡ false)
    → cut_of kind made (of_codes (λ _. true)) ≡ made
by_codes kind font made wanted written sound none =
    sound.cuts (of_codes (λ _. true))
    ∙ (λ i. cut_of kind font (record {
      codes = λ c. all (wanted.codes c) i;
      glyphs = λ g. (nothing (is_kept ((format_of kind).font font) wanted g) ∙ sym (none g)) i;
    }))
    ∙ sym written.is
  where
    all : (b : Bool) → (b && true) ≡ b
    all true = refl
    all false = refl

    nothing : (b : Bool) → (b && false) ≡ false
    nothing true = refl
    nothing false = refl

lean_sound : (font made : List ℕ) (wanted : Wanted) → fault_of Lean font ≡ None
    → IsWritten (cut_of Lean font wanted) made → IsLeanSound font wanted made
lean_sound font made wanted accepted written =
    let sound = sound_as Lean font made wanted accepted written in
    let current = λ (own : cut_of Lean made (of_codes (λ _. true)) ≡ made).
    subst (λ R. IsCurrent R made) (sym full-is) (current-full made sound.form own) in
    record {
      lean = sound;
      full = λ none. current (by_codes Lean font made wanted written sound none);
      full_by_codes = current;
      no_longer = λ none. subst (λ (b : List ℕ). length b ≤ length (full_cut font wanted.codes))
          (ap (cut_of Lean font) (sym (codes_alone wanted none)) ∙ sym written.is)
          (subst (λ (b : List ℕ). length (cut_of Lean font (of_codes wanted.codes)) ≤ length b)
          (sym (cut_full font wanted.codes))
          (length-lean_cut font wanted.codes (sym (lean_fault-is font) ∙ accepted)));
    }
  where
    codes_alone : (W : Wanted) → ((g : ℕ) → W.glyphs g ≡ false) → W ≡ of_codes W.codes
    codes_alone W none = λ i. record { codes = W.codes; glyphs = λ g. none g i }

-- the cut of a kind is the file of what is written of it
pub cut_in_is : (font : Kind × List ℕ) (ranges : Option (List CodeRange)) (numbers : Option (List ℕ)) (held : Held)
    → held ≡ (font.0, (font.1, asked ranges numbers))
    → file current_writing (written_content held) ≡ cut_of font.0 font.1 (wanted_in (asked ranges numbers))
unfolding written_content
cut_in_is font ranges numbers held same = ap (λ (v : Held). file current_writing (written_content v)) same
    ∙ sym ((IsKind-by (settings font.0) (settings-are font.0)).writes _)

-- in full cuts numbers do not count
full_by_codes : (file_bytes : List ℕ) (wanted : Wanted) → fault_of Full file_bytes ≡ None
    → cut_of Full file_bytes wanted ≡ full_cut file_bytes wanted.codes
unfolding our_format
full_by_codes file_bytes wanted accepted =
    ap (λ (R : Format). cut R file_bytes wanted) full-is
    ∙ ap (file current_writing) (content-none _ wanted (IsFont-accepted file_bytes (sym (full_fault-is file_bytes)
    ∙ accepted)) (λ g. refl))
    ∙ sym (cut_full file_bytes wanted.codes)

pub is_sound_in : (font : Kind × List ℕ) (made : List ℕ) (wanted : Wanted) → fault_of font.0 font.1 ≡ None
    → IsWritten (cut_of font.0 font.1 wanted) made → IsSoundIn font.0 font.1 wanted made
is_sound_in font made wanted = by_kind font.0 font.1
  where
    by_kind : (kind : Kind) (file : List ℕ) → fault_of kind file ≡ None → IsWritten (cut_of kind file wanted) made
        → IsSoundIn kind file wanted made
    by_kind Full whole ok written =
        is_sound whole made wanted.codes (sym (full_fault-is whole) ∙ ok)
        (subst (λ (b : List ℕ). IsWritten b made) (full_by_codes whole wanted ok) written)
    by_kind Lean whole ok written = lean_sound whole made wanted ok written
    by_kind Layout whole ok written = sound_as Layout whole made wanted ok written
    by_kind Variable whole ok written = sound_as Variable whole made wanted ok written
