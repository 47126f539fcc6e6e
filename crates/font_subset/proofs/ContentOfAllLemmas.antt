-- What a font holds for all codes, and whether its file is the file of that.
use Rattle.std.proofs.Common.{◌≡◌, ℕ, ◌<◌, Some, Bool, true, false, ◌||◌, if◌then◌else◌, List, [], None, IsTrue, ◌↔◌}
use Rattle.std.proofs.Common.{inl, inr, refl, subst, sym, ◌∙◌, ap}
use Rattle.std.specs.Option.{is_some, unwrap_or}
use Rattle.std.specs.Str.{bytes_eq}
use Rattle.std.proofs.lemmas.Slice.Eq.{bytes_eq-Decides}
use Rattle.std.proofs.lemmas.Bool.{false_from_ne_true}
use Rattle.font_file.specs.Font.{font_fault}
use Rattle.sfnt_bytes.specs.Lines.{when}
use Rattle.font_theory.specs.Bytes.{padded}
use Rattle.font_theory.specs.Content.{Font, content, everything, is_kept, plain_font}
use Rattle.font_theory.specs.Cut.{Format, IsCurrent, IsCut, IsOld, is_current, is_cut, is_old}
use Rattle.font_theory.specs.Cut.{content_of_all}
use Rattle.font_theory.proofs.CutLemmas.{IsCut-cases, IsCut-current, IsCut-old, is_current-of, is_current-tells}
use Rattle.font_theory.proofs.CutLemmas.{is_cut-tells, is_old-of, is_old-tells}
use Rattle.font_theory.proofs.WritingLemmas.{no_cut-both}
use Rattle.font_theory.specs.Kinds.{fault_of, font_of, format_by, format_of}
use Rattle.font_theory.specs.declared.kinds.Kind.TheVariants.{Full}
use Rattle.font_theory.specs.declared.kinds.Kind.{Kind}
use Rattle.font_theory.proofs.KindLemmas.{full-is, full_fault-is, kind_is, read_whole}
use Rattle.font_subset.specs.CutOfFont.{IsFormIn, IsFormOf, cut_form_of, form_in}
use Rattle.font_subset.specs.CutOfKind.{kind_form}
use Rattle.font_subset.specs.Inside.{IsFileIn}
use Rattle.font_subset.specs.declared.forms.CutForm.{CutForm}
use Rattle.font_subset.specs.declared.forms.CutForm.TheVariants.{Current, Not, Old}
use Rattle.font_theory.proofs.FileWantedLemmas.{outline-file}
use Rattle.font_tables.specs.Fields.{glyph_count_of}
use Rattle.font_tables.specs.Outlines.{outline_of}
use Rattle.font_subset.specs.KeptGlyphs.{IsKeptSet}
use Rattle.font_subset.proofs.SourceLemmas.{kept_below, kept_is}

-- the reader and the writer of full cuts
abbrev full : Format
full = format_of Full

full_accepts : (X : List ℕ) → font_fault X ≡ None → full.fault X ≡ None
unfolding format_by
full_accepts X h = full_fault-is X ∙ h

no_full_both : (X : List ℕ) → IsCurrent full X → IsOld full X → ⊥
no_full_both X now old = no_cut-both X (subst (λ R. IsCurrent R X) full-is now) (subst (λ R. IsOld R X) full-is old)

-- the tests of both forms, of the files of the content
is_current_is : (R : Format) (X : List ℕ) → is_current R X ≡ bytes_eq (R.file (content_of_all R X)) X
unfolding is_current
is_current_is R X = refl

is_old_is : (R : Format) (X : List ℕ) → is_old R X ≡ bytes_eq (R.old (content_of_all R X)) X
unfolding is_old
is_old_is R X = refl

is_cut_is : (R : Format) (X : List ℕ) → is_cut R X ≡ (is_current R X || is_old R X)
unfolding is_cut is_current is_old
is_cut_is R X = refl

passes : (file X : List ℕ) → file ≡ X → bytes_eq file X ≡ true
passes file X e = (bytes_eq-Decides file X).1 e

fails : (file X : List ℕ) → (file ≡ X → ⊥) → bytes_eq file X ≡ false
fails file X n = false_from_ne_true (bytes_eq file X) (λ t. n ((bytes_eq-Decides file X).0 t))

-- the form of a file is that in which it is the file of its content
pub form_by : (R : Format) (form : CutForm) (X : List ℕ) → IsFileIn R (content_of_all R X) X form → form ≡ form_in R X
unfolding form_in
form_by R Current X h = rw (is_current_is R X ∙ passes _ X h) refl
form_by R Old X h = rw (is_current_is R X ∙ fails _ X h.0, is_old_is R X ∙ passes _ X h.1) refl
form_by R Not X h = rw (is_current_is R X ∙ fails _ X h.0, is_old_is R X ∙ fails _ X h.1) refl

-- what a form says of the tests
abbrev pub is_current_form : CutForm → Bool
is_current_form Current = true
is_current_form _ = false

abbrev pub is_some_form : CutForm → Bool
is_some_form Not = false
is_some_form _ = true

module _ (R : Format) where
  pub is_current_by : (form : CutForm) (X : List ℕ) → form ≡ form_in R X → is_current_form form ≡ is_current R X
  unfolding form_in
  is_current_by form X e = ap is_current_form e ∙ go (is_current R X) (is_old R X)
    where
      go : (b c : Bool) → is_current_form (if b then Current else if c then Old else Not) ≡ b
      go true c = refl
      go false true = refl
      go false false = refl

  pub is_cut_by : (form : CutForm) (X : List ℕ) → form ≡ form_in R X → is_some_form form ≡ is_cut R X
  unfolding form_in
  is_cut_by form X e = ap is_some_form e ∙ go (is_current R X) (is_old R X) ∙ sym (is_cut_is R X)
    where
      go : (b c : Bool) → is_some_form (if b then Current else if c then Old else Not) ≡ (b || c)
      go true c = refl
      go false true = refl
      go false false = refl

  pub is_no_cut : (form : CutForm) (X : List ℕ) → form ≡ form_in R X → form ≡ Not → is_cut R X ≡ false
  is_no_cut form X e h = sym (is_cut_by form X e) ∙ ap is_some_form h

  pub is_some_cut : (form : CutForm) (X : List ℕ) → form ≡ form_in R X → (form ≡ Not → ⊥) → is_cut R X ≡ true
  is_some_cut form X e n = sym (is_cut_by form X e) ∙ go form n
    where
      go : (form : CutForm) → (form ≡ Not → ⊥) → is_some_form form ≡ true
      go Not n = absurd (n refl)
      go Old n = refl
      go Current n = refl

  pub is_now : (form : CutForm) (X : List ℕ) → form ≡ form_in R X → form ≡ Current → is_current R X ≡ true
  is_now form X e h = sym (is_current_by form X e) ∙ ap is_current_form h

  pub is_not_now : (form : CutForm) (X : List ℕ) → form ≡ form_in R X → (form ≡ Current → ⊥) → is_current R X ≡ false
  is_not_now form X e n = sym (is_current_by form X e) ∙ go form n
    where
      go : (form : CutForm) → (form ≡ Current → ⊥) → is_current_form form ≡ false
      go Current n = absurd (n refl)
      go Not n = refl
      go Old n = refl

-- a form in words, for each kind
pub form_in_words : (kind : Kind) (form : CutForm) (X : List ℕ) → fault_of kind X ≡ None → form ≡ kind_form kind X
    → IsFormIn kind X form
unfolding form_in
form_in_words kind form X accepted e = go (is_current R X) (is_old R X) refl refl e
  where
    R : Format
    R = format_of kind

    ok : R.fault X ≡ None
    ok = (kind_is kind).fault_is X ∙ accepted

    other : (a b : CutForm) → form ≡ a → form ≡ b → (a ≡ b → ⊥) → ⊥
    other a b p q n = n (sym p ∙ q)

    both_false : (b : Bool) → b ≡ false → b ≡ true → ⊥
    both_false b f t = let n : false ≡ true = sym f ∙ t in cc

    no_current : is_current R X ≡ false → IsCurrent R X → ⊥
    no_current p h = both_false (is_current R X) p (is_current-of R X h)

    go : (b c : Bool) → is_current R X ≡ b → is_old R X ≡ c
        → form ≡ (if b then Current else if c then Old else Not) → IsFormIn kind X form
    go true c p q e =
        let is = is_current-tells R X ok p in
        record {
          current = (λ h. is, λ h. e);
          old = (λ h. absurd (other Current Old e h (λ n. cc)), λ old. absurd (old.1 is));
          neither = (λ h. absurd (other Current Not e h (λ n. cc)), λ no. absurd (no (IsCut-current R X is)));
        }
    go false true p q e =
        let is = is_old-tells R X ok q in
        record {
          current = (λ h. absurd (other Old Current e h (λ n. cc)), λ now. absurd (no_current p now));
          old = (λ h. (is, no_current p), λ h. e);
          neither = (λ h. absurd (other Old Not e h (λ n. cc)), λ no. absurd (no (IsCut-old R X is)));
        }
    go false false p q e =
        let no_old : IsOld R X → ⊥ = λ h. both_false (is_old R X) q (is_old-of R X h) in
        record {
          current = (λ h. absurd (other Not Current e h (λ n. cc)), λ now. absurd (no_current p now));
          old = (λ h. absurd (other Not Old e h (λ n. cc)), λ old. absurd (no_old old.0));
          neither =
              (λ h cut. elim (IsCut-cases R X cut) [ inl now ↦ no_current p now | inr old ↦ no_old old ], λ h. e);
        }

-- no file is a full cut in both forms
pub form_told : (form : CutForm) (X : List ℕ) → font_fault X ≡ None → form ≡ cut_form_of X → IsFormOf X form
form_told form X accepted e =
    let told = form_in_words Full form X (sym ((kind_is Full).fault_is X) ∙ full_accepts X accepted) e in
    record {
      current = told.current;
      old = (λ h. (told.old.0 h).0, λ old. told.old.1 (old, λ now. no_full_both X now old));
      neither = told.neither;
    }

-- in words
pub is_current_in_words : (kind : Kind) (b : Bool) (X : List ℕ) → fault_of kind X ≡ None
    → b ≡ is_current (format_of kind) X → IsTrue b ↔ IsCurrent (format_of kind) X
is_current_in_words kind b X accepted e =
    let R : Format = format_of kind in
    (λ t. is_current-tells R X ((kind_is kind).fault_is X ∙ accepted) (sym e ∙ t), λ is. e ∙ is_current-of R X is)

pub is_cut_tells : (kind : Kind) (b : Bool) (X : List ℕ) → fault_of kind X ≡ None → b ≡ is_cut (format_of kind) X
    → IsTrue b → IsCut (format_of kind) X
is_cut_tells kind b X accepted e t = is_cut-tells (format_of kind) (kind_is kind).law X ((kind_is kind).fault_is X
    ∙ accepted) (sym e ∙ t)

-- an outline that a file in cut form keeps stands in it is written: with its zeros
filled : (kind : Kind) (file : List ℕ) → IsCut (format_of kind) file → (g : ℕ)
    → is_kept (font_of kind file) everything g ≡ true → (content (font_of kind file) everything).outline g
    ≡ Some ((plain_font file).outline g)
filled kind file form g kept =
    let e : (content (font_of kind file) everything).outline g ≡ Some (padded ((plain_font file).outline g)) =
    ap (λ b. when b (padded ((plain_font file).outline g))) kept in
    e ∙ ap Some (sym (ap (λ (F : Font). F.outline g) (read_whole kind file form) ∙ ap (λ o. unwrap_or o []) e))

-- an outline that is kept is one of the font, and in a file in cut form has its zeros
module _ (kind : Kind) (file : List ℕ) (marks : List Bool) (kept : IsKeptSet kind file everything marks) where
  pub written_below : (g : ℕ) (b : Bool) → b ≡ is_some ((content (font_of kind file) everything).outline g) → b ≡ true
      → g < glyph_count_of file
  written_below g b is t = kept_below kind file everything marks kept g (sym is ∙ t)

  pub written_is : IsCut (format_of kind) file → (g : ℕ) (b : Bool)
      → b ≡ is_some ((content (font_of kind file) everything).outline g) → b ≡ true
      → (content (font_of kind file) everything).outline g ≡ Some (outline_of file g)
  written_is form g b is t =
      filled kind file form g (sym (kept.kept g) ∙ kept_is kind file everything marks kept g ∙ sym is ∙ t)
      ∙ ap (λ (x : List ℕ). Some x) (outline-file file g (written_below g b is t))
