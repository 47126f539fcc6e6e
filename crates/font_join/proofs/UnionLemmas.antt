-- The first refusal of two fonts that are to be united, and what holds where there is none.
use Rattle.std.proofs.Common.{◌≡◌, ℕ, ◌<◌, List, [], ◌∷◌, Some}
use Rattle.std.specs.Option.{option_map}
use Rattle.sfnt_bytes.specs.Lines.{first_of_lines}
use Rattle.sfnt_bytes.specs.declared.tag.TheConstants.{ALL_SLOTS}
use Rattle.font_theory.specs.Content.{Content}
use Rattle.font_theory.specs.Cut.{Format, content_of_all, misfit_of}
use Rattle.font_theory.specs.Difference.{difference}
use Rattle.font_theory.specs.declared.Difference.TheVariants.{AtTable}
use Rattle.font_theory.proofs.DifferenceLemmas.{difference-table}
use Rattle.font_join.specs.Join.{different, form_fault, too_long, union_fault}
use Rattle.font_join.specs.declared.join_error.JoinError.{JoinError}
use Rattle.font_join.specs.declared.join_error.Which.TheVariants.{First, Second}

module _ (R : Format) (x y : List ℕ) where
  pub first_form : (error : JoinError) → form_fault R First x ≡ Some error → union_fault R x y ≡ Some error
  unfolding union_fault
  first_form error e =
      λ i. first_of_lines (e i ∷ form_fault R Second y
      ∷ option_map different (difference (content_of_all R x) (content_of_all R y))
      ∷ option_map too_long (misfit_of R x y) ∷ [])

-- the slot of a difference
pub slot_below : (K L : Content) (slot : ℕ) → difference K L ≡ Some (AtTable slot) → slot < ALL_SLOTS
slot_below K L slot h = difference-table K L slot h
