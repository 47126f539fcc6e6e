-- How lines that are written one by one go on.
use Rattle.std.proofs.Common.{◌≡◌, ℕ, List, ◌∷◌, ◌++◌, sym, ap, ◌∙◌, append_assoc}
use Rattle.std.specs.List.{flat_map}

-- the text of the first item moves from what is left to what is written
pub flat_map-moves : {X : Type 0} (text : X → List ℕ) (whole written : List ℕ) (x : X) (left rest : List X)
    → whole ≡ written ++ flat_map text left → left ≡ x ∷ rest → whole ≡ (written ++ text x) ++ flat_map text rest
flat_map-moves text whole written x left rest is first =
    is ∙ ap (λ items. written ++ flat_map text items) first ∙ sym (append_assoc written (text x) (flat_map text rest))
