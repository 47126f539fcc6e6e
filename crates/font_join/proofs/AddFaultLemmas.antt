-- Why a file is not added to a content, of any format, and the first difference of two contents.
use Rattle.std.proofs.Common.{◌≡◌, ℕ, List, [], ◌∷◌, find, Option, None, Some, refl, sym, ◌∙◌}
use Rattle.std.specs.List.{range_with_len}
use Rattle.std.specs.Option.{option_map}
use Rattle.sfnt_bytes.specs.Lines.{first_of_lines}
use Rattle.font_theory.specs.Content.{Content, glyph_count}
use Rattle.font_theory.specs.Agreement.{both}
use Rattle.font_theory.specs.Cut.{Format, content_of_all}
use Rattle.font_theory.specs.Difference.{difference, is_different_glyph}
use Rattle.font_theory.specs.declared.Difference.{Difference}
use Rattle.font_theory.specs.declared.Difference.TheVariants.{AtCode, AtGlyph, AtTable}
use Rattle.font_join.specs.Inside.{IsAddRefusal, IsFormRefusal, add_fault, early_difference, late_fault}
use Rattle.font_join.specs.Join.{different, form_fault, too_long}
use Rattle.font_join.specs.declared.join_error.JoinError.{JoinError}
use Rattle.font_join.specs.declared.join_error.JoinError.TheVariants.{DifferentGlyph, DifferentMapping, DifferentTable}
use Rattle.font_join.specs.declared.join_error.JoinError.TheVariants.{Font, NoMemory, NotACut, TableTooLong, TooLarge}
use Rattle.font_join.specs.declared.join_error.Which.TheVariants.{Second}

-- the lines, at what they test
abbrev lines_at : Option JoinError → Option Difference → Option ℕ → Option JoinError
lines_at cy d m = first_of_lines (cy ∷ option_map different d ∷ option_map too_long m ∷ [])

lines_at-late : (glyph misfit : Option ℕ) → lines_at None (option_map AtGlyph glyph) misfit ≡ late_fault glyph misfit
lines_at-late None None = refl
lines_at-late None (Some slot) = refl
lines_at-late (Some g) misfit = refl

module _ (R : Format) (K : Content) (y : List ℕ) where
  form_first : (error : JoinError) → form_fault R Second y ≡ Some error → add_fault R K y ≡ Some error
  unfolding add_fault
  form_first error e = λ i. lines_at (e i) (difference K (content_of_all R y)) (R.misfit (both K (content_of_all R y)))

  difference_fault : form_fault R Second y ≡ None → (d : Difference) → Some d ≡ difference K (content_of_all R y)
      → add_fault R K y ≡ Some (different d)
  unfolding add_fault
  difference_fault e d h = λ i. lines_at (e i) (sym h i) (R.misfit (both K (content_of_all R y)))

  -- where tables and codes do not differ, a glyph does, or else a table has no room
  pub late : form_fault R Second y ≡ None → (glyph misfit : Option ℕ)
      → difference K (content_of_all R y) ≡ option_map AtGlyph glyph
      → (glyph ≡ None → misfit ≡ R.misfit (both K (content_of_all R y))) → add_fault R K y ≡ late_fault glyph misfit
  unfolding add_fault
  late e None misfit d m = (λ i. lines_at (e i) (d i) (sym (m refl) i)) ∙ lines_at-late None misfit
  late e (Some g) misfit d m =
      (λ i. lines_at (e i) (d i) (R.misfit (both K (content_of_all R y))))
      ∙ lines_at-late (Some g) (R.misfit (both K (content_of_all R y)))

  pub late_refused : (glyph misfit : Option ℕ) (error : JoinError) → add_fault R K y ≡ late_fault glyph misfit
      → late_fault glyph misfit ≡ Some error → IsAddRefusal R K y error
  late_refused glyph misfit NoMemory e r = tt
  late_refused glyph misfit (Font which f) e r = e ∙ r
  late_refused glyph misfit (NotACut which) e r = e ∙ r
  late_refused glyph misfit (DifferentTable tag) e r = e ∙ r
  late_refused glyph misfit (DifferentMapping code) e r = e ∙ r
  late_refused glyph misfit (DifferentGlyph g) e r = e ∙ r
  late_refused glyph misfit (TableTooLong tag) e r = e ∙ r
  late_refused glyph misfit (TooLarge s) e r = e ∙ r

  -- a file that is not taken for a cut, and one that differs
  pub form_refused : (error : JoinError) → IsFormRefusal R Second y error → IsAddRefusal R K y error
  form_refused NoMemory r = tt
  form_refused (Font which f) r = form_first _ r
  form_refused (NotACut which) r = form_first _ r
  form_refused (DifferentTable tag) r = form_first _ r
  form_refused (DifferentMapping code) r = form_first _ r
  form_refused (DifferentGlyph g) r = form_first _ r
  form_refused (TableTooLong tag) r = form_first _ r
  form_refused (TooLarge s) r = form_first _ r

  pub difference_refused : (d : Difference) → form_fault R Second y ≡ None → Some d ≡ difference K (content_of_all R y)
      → IsAddRefusal R K y (different d)
  difference_refused (AtTable slot) e h = difference_fault e (AtTable slot) h
  difference_refused (AtCode code) e h = difference_fault e (AtCode code) h
  difference_refused (AtGlyph g) e h = difference_fault e (AtGlyph g) h

-- what is no late fault
pub late_none : (glyph misfit : Option ℕ) → late_fault glyph misfit ≡ None → (glyph ≡ None) × (misfit ≡ None)
late_none None None h = (refl, refl)
late_none None (Some slot) h = cc
late_none (Some g) misfit h = cc

-- no late fault is refused memory
pub late_memory : (glyph misfit : Option ℕ) → late_fault glyph misfit ≡ Some NoMemory → ⊥
late_memory None None h = cc
late_memory None (Some slot) h = cc
late_memory (Some g) misfit h = cc

-- a difference is one of the first two kinds, or of the third
early_cases : (t c g : Option Difference) → first_of_lines (t ∷ c ∷ []) ≡ None → first_of_lines (t ∷ c ∷ g ∷ []) ≡ g
early_cases (Some d) c g h = cc
early_cases None (Some d) g h = cc
early_cases None None None h = refl
early_cases None None (Some d) h = refl

early_is : (t c g : Option Difference) (d : Difference) → first_of_lines (t ∷ c ∷ []) ≡ Some d
    → first_of_lines (t ∷ c ∷ g ∷ []) ≡ Some d
early_is (Some e) c g d h = h
early_is None (Some e) g d h = h
early_is None None g d h = cc

pub difference-early : (K L : Content) (d : Difference) → early_difference K L ≡ Some d → difference K L ≡ Some d
unfolding early_difference difference
difference-early K L d h = early_is _ _ _ d h

pub difference-late : (K L : Content) → early_difference K L ≡ None
    → difference K L ≡ option_map AtGlyph (find (is_different_glyph K L) (range_with_len 0 (glyph_count K.copied)))
unfolding early_difference difference
difference-late K L h = early_cases _ _ _ h
