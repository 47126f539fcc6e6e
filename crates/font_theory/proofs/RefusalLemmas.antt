-- The tests by which two files are joined or refused.
use Rattle.std.proofs.Common.{◌≡◌, ◌≢◌, ℕ, true, false, List, None, Some, sym, ◌∙◌}
use Rattle.std.proofs.lemmas.Bool.{both_ways}
use Rattle.sfnt_bytes.specs.declared.directory.DirError.TheVariants.{FileTooLarge}
use Rattle.font_file.specs.declared.font_error.FontError.{FontError}
use Rattle.font_file.specs.declared.font_error.FontError.TheVariants.{Directory}
use Rattle.font_theory.specs.Cut.{CanJoin, Format, IsFormat, Under, is_cut, content_of_all, misfit_of}
use Rattle.font_theory.specs.Difference.{difference}
use Rattle.font_theory.proofs.CutLemmas.{Agree-under, IsClosed-whole, IsCut-under, is_cut-of, is_cut-tells}
use Rattle.font_theory.proofs.CutLemmas.{misfit-under}
use Rattle.font_theory.proofs.DifferenceLemmas.{Agree-from_none, none_from-Agree}

module _ (R : Format) (law : IsFormat R) where
  module _ (X Y : List ℕ) (okX : R.fault X ≡ None) (okY : R.fault Y ≡ None) where
    pub CanJoin-tested : (is_cut R X ≡ true) × (is_cut R Y ≡ true)
        × (difference (content_of_all R X) (content_of_all R Y) ≡ None) × (misfit_of R X Y ≡ None) → CanJoin R X Y
    CanJoin-tested h = record {
      first = is_cut-tells R law X okX h.0;
      second = is_cut-tells R law Y okY h.1;
      agree = Agree-from_none _ _ (IsClosed-whole R law X okX) (IsClosed-whole R law Y okY)
          (law.same_sequences X Y okX okY) h.2;
      fit = h.3;
    }

    pub tested-CanJoin : CanJoin R X Y → (is_cut R X ≡ true) × (is_cut R Y ≡ true)
        × (difference (content_of_all R X) (content_of_all R Y) ≡ None) × (misfit_of R X Y ≡ None)
    tested-CanJoin can = (
      is_cut-of R law X can.first,
      is_cut-of R law Y can.second,
      none_from-Agree _ _ (IsClosed-whole R law X okX)
          (IsClosed-whole R law Y okY) can.agree,
      can.fit,
    )

    -- no file is above two that differ
    pub different-under : (F : List ℕ) → difference (content_of_all R X) (content_of_all R Y) ≢ None → Under R X F
        → ¬ Under R Y F
    different-under F differ u v =
        differ (none_from-Agree _ _ (IsClosed-whole R law X okX) (IsClosed-whole R law Y okY)
        (Agree-under R law X Y F u v (law.accepted_size X okX) (law.accepted_size Y okY)))

    -- nor above two of which some table has no room for what both have in it
    pub unfit-under : (F : List ℕ) → misfit_of R X Y ≢ None → Under R X F → ¬ Under R Y F
    unfit-under F unfit u v =
        unfit (misfit-under R law X Y F u v (law.accepted_size X okX) (law.accepted_size Y okY))

  -- a file that is refused, but for its size, is under none
  pub refused-under : (X F : List ℕ) (error : FontError) → R.fault X ≡ Some error → error ≢ Directory FileTooLarge
      → ¬ Under R X F
  refused-under X F error refused other u =
      let none : Some error ≡ None = sym refused
      ∙ (IsCut-under R law X F u (law.refused_size X error refused other)).accepted in cc

  -- nor is one that is not in cut form
  pub no_cut-under : (X F : List ℕ) → R.fault X ≡ None → is_cut R X ≡ false → ¬ Under R X F
  no_cut-under X F ok fails u = both_ways _ fails (is_cut-of R law X (IsCut-under R law X F u (law.accepted_size X ok)))
