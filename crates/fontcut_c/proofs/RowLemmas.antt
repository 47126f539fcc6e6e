-- Room that is filled from the front, with what a function gives for each item of a list.
use Rattle.std.proofs.Common.{◌≡◌, ℕ, ◌+◌, ◌<◌, List, [], ◌∷◌, ◌++◌, drop, get_or, length, map, set, take, sym, ◌∙◌, ap}
use Rattle.std.proofs.Math.Seq.{take-length}
use Rattle.std.proofs.lemmas.List.{map-append, take-append-drop, take_more, take_more_set}

module _ {A B : Type 0} (f : A → B) (items : List A) where
  -- one more is written
  pub row_more : (out : List B) (at : ℕ) (item : A) → at < length items → at < length out
      → take at out ≡ map f (take at items) → take (at + 1) (set out at (f (get_or items at item)))
      ≡ map f (take (at + 1) items)
  row_more out at item inside room front =
      take_more_set out at (f (get_or items at item)) room
      ∙ (ap (λ (l : List B). l ++ f (get_or items at item) ∷ []) front
      ∙ (sym (map-append f (take at items) (get_or items at item ∷ []))
      ∙ ap (map f) (sym (take_more items at item inside))))

  -- all are written
  pub row_all : (out old : List B) → take (length items) out ≡ map f (take (length items) items)
      → drop (length items) out ≡ drop (length items) old → out ≡ map f items ++ drop (length items) old
  row_all out old front back =
      let n = length items in
      sym (take-append-drop n out)
      ∙ (ap (λ (l : List B). l ++ drop n out) (front ∙ ap (map f) (take-length items))
      ∙ ap (λ (l : List B). map f items ++ l) back)
