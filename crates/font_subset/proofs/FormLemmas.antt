-- The form in which a file is that of a content of a kind.
use Rattle.std.proofs.Common.{◌≡◌, ◌≢◌, ℕ, List, refl, sym, ◌∙◌, ap, subst}
use Rattle.font_theory.specs.Content.{Content, content}
use Rattle.font_theory.specs.File.{current_writing, file, writing_of}
use Rattle.font_theory.specs.Kinds.{format_by, format_of, full_settings, layout_settings, lean_settings, spelled_by}
use Rattle.font_theory.specs.Kinds.{variable_settings}
use Rattle.font_theory.specs.declared.Profile.TheVariants.{First}
use Rattle.font_theory.specs.declared.kinds.Kind.{Kind}
use Rattle.font_theory.specs.declared.kinds.Kind.TheVariants.{Full, Layout, Lean, Variable}
use Rattle.font_theory.proofs.KindLemmas.{kind_is}
use Rattle.font_subset.specs.KeptGlyphs.{Asked, all_asked, wanted_in, written_content}
use Rattle.font_subset.specs.Inside.{IsFileIn}
use Rattle.font_subset.specs.CutOfKind.{kind_form}
use Rattle.font_subset.specs.declared.forms.CutForm.{CutForm}
use Rattle.font_subset.proofs.ContentOfAllLemmas.{form_by}
use Rattle.font_subset.proofs.KindSourceLemmas.{written_spelled}
use Rattle.font_subset.proofs.SourceLemmas.{Held}

-- what was written before, by the kinds
old_full : (kind : Kind) (C K : Content) (X : List ℕ) → kind ≡ Full → C ≡ spelled_by kind K
    → (format_of kind).old K ≡ file (writing_of First) C
unfolding format_by full_settings
old_full Full C K X full spells = ap (λ L. file (writing_of First) L) (sym spells)
old_full Lean C K X full spells = absurd (let n : Lean ≡ Full = full in cc)
old_full Layout C K X full spells = absurd (let n : Layout ≡ Full = full in cc)
old_full Variable C K X full spells = absurd (let n : Variable ≡ Full = full in cc)

old_other : (kind : Kind) (K : Content) → kind ≢ Full → (format_of kind).file K ≡ (format_of kind).old K
unfolding format_by lean_settings layout_settings variable_settings
old_other Full K other = absurd (other refl)
old_other Lean K other = refl
old_other Layout K other = refl
old_other Variable K other = refl

module _ (kind : Kind) (C K : Content) (X : List ℕ) (spells : C ≡ spelled_by kind K) where
  pub now_is : X ≡ file current_writing C → (format_of kind).file K ≡ X
  now_is h = (kind_is kind).writes K ∙ ap (λ L. file current_writing L) (sym spells) ∙ sym h

  pub not_now : X ≢ file current_writing C → (format_of kind).file K ≢ X
  not_now n h = n (sym h ∙ (kind_is kind).writes K ∙ ap (λ L. file current_writing L) (sym spells))

  pub old_is : kind ≡ Full → X ≡ file (writing_of First) C → (format_of kind).old K ≡ X
  old_is full h = old_full kind C K X full spells ∙ sym h

  pub not_old : kind ≡ Full → X ≢ file (writing_of First) C → (format_of kind).old K ≢ X
  not_old full n h = n (sym h ∙ old_full kind C K X full spells)

  -- cuts of other kinds have one form
  pub not_other : kind ≢ Full → X ≢ file current_writing C → (format_of kind).old K ≢ X
  not_other other n h = not_now n (old_other kind K other ∙ h)

pub lean_other : (kind : Kind) → kind ≡ Lean → kind ≢ Full
lean_other kind is full = let n : Lean ≡ Full = sym is ∙ full in cc

pub layout_other : (kind : Kind) → kind ≡ Layout → kind ≢ Full
layout_other kind is full = let n : Layout ≡ Full = sym is ∙ full in cc

pub variable_other : (kind : Kind) → kind ≡ Variable → kind ≢ Full
variable_other kind is full = let n : Variable ≡ Full = sym is ∙ full in cc

-- the form of a font's file, of what is held for all codes
pub form_of_held : (kind : Kind) (held : Held) (X : List ℕ) (form : CutForm) → kind ≡ held.0 → held.1.1 ≡ all_asked
    → X ≡ held.1.0 → ((K : Content) → written_content held ≡ spelled_by kind K → IsFileIn (format_of kind) K X form)
    → form ≡ kind_form held.0 held.1.0
form_of_held kind held X form same all is told =
    let here : (K : Content) → written_content held ≡ spelled_by held.0 K → IsFileIn (format_of held.0) K X form =
    subst (λ (k : Kind). (K : Content) → written_content held ≡ spelled_by k K → IsFileIn (format_of k) K X form) same
    told in
    let whole = subst (λ (o : Asked). IsFileIn (format_of held.0)
    (content ((format_of held.0).font held.1.0) (wanted_in o)) X form) all (here _ (written_spelled held)) in
    form_by (format_of held.0) form held.1.0
    (subst (λ (b : List ℕ). IsFileIn (format_of held.0) (content ((format_of held.0).font held.1.0)
    (wanted_in all_asked)) b form) is whole)
