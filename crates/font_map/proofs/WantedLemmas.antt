-- The groups of a mapping on a set, by the first piece and the run that it begins.
use Rattle.std.proofs.Common.{◌≡◌, ℕ, ◌+◌, Bool, List, [], ◌∷◌, Option, Some, None, subst}
use Rattle.codes.specs.CharacterMap.{IsCharacterMap, restricted}
use Rattle.font_map.specs.Mapping.{mapping_of}
use Rattle.codes.specs.Runs.{IsNext, IsPiece, IsRun, NoRun, groups_from}
use Rattle.codes.specs.declared.runs.Run.{Run}
use Rattle.codes.proofs.RunLemmas.{groups_done, groups_next}

abbrev within : (ℕ → Bool) → List ℕ → ℕ → ℕ → ℕ
within w cmap n = restricted w (mapping_of cmap n)

pub groups_on : (w : ℕ → Bool) (cmap : List ℕ) (n from : ℕ) (found : Option Run) (piece run : Run)
    → IsCharacterMap (within w cmap n) × IsNext (within w cmap n) from found → found ≡ Some piece
    → ((f : ℕ) → IsPiece (within w cmap n) f piece → IsRun (within w cmap n) f run) → groups_from (within w cmap n) from
    ≡ run ∷ groups_from (within w cmap n) (run.last + 1)
groups_on w cmap n from found piece run h is whole =
    let first : IsPiece (within w cmap n) from piece =
    subst (λ (o : Option Run). IsNext (within w cmap n) from o) is h.1 in
    groups_next (within w cmap n) from run h.0 (whole from first)

pub groups_over : (w : ℕ → Bool) (cmap : List ℕ) (n from : ℕ) (found : Option Run) → IsCharacterMap (within w cmap n)
    × IsNext (within w cmap n) from found → found ≡ None → groups_from (within w cmap n) from ≡ []
groups_over w cmap n from found h is =
    let none : NoRun (within w cmap n) from = subst (λ (o : Option Run). IsNext (within w cmap n) from o) is h.1 in
    groups_done (within w cmap n) from h.0 none
