-- Ranges that are counted, and written one after the other.
use Rattle.std.proofs.Common.{◌≡◌, ℕ, suc, ◌+◌, ◌<◌, List, [], ◌∷◌, ◌++◌, drop, length, set, take, sym, ◌∙◌, ap, subst}
use Rattle.std.proofs.Common.{arith}
use Rattle.std.proofs.lemmas.List.{append-nil, append_assoc, take-append-drop, take_more_set}
use Rattle.codes.specs.declared.code_range.CodeRange.{CodeRange}

-- one range more
module _ (ranges rest : List CodeRange) (range : CodeRange) (is : ranges ≡ range ∷ rest) where
  one_longer : length ranges ≡ suc (length rest)
  one_longer = ap (λ (l : List CodeRange). length l) is

  pub counted_more : (count n : ℕ) → count + length ranges ≡ n → count + 1 + length rest ≡ n
  counted_more count n e = let longer = one_longer in omega (arith, e, longer)

  pub below_count : (count n : ℕ) → count + length ranges ≡ n → count < n
  below_count count n e = let longer = one_longer in omega (arith, e, longer)

  pub put_more : (out all : List CodeRange) (at : ℕ) → at < length out → take at out ++ ranges ≡ all
      → take (at + 1) (set out at range) ++ rest ≡ all
  put_more out all at room e =
      ap (λ (l : List CodeRange). l ++ rest) (take_more_set out at range room)
      ∙ (append_assoc (take at out) (range ∷ []) rest
      ∙ (ap (λ (l : List CodeRange). take at out ++ l) (sym is) ∙ e))

-- none is left
pub counted_all : (ranges : List CodeRange) (count n : ℕ) → ranges ≡ [] → count + length ranges ≡ n → count ≡ n
counted_all ranges count n none e =
    let zero_left = ap (λ (l : List CodeRange). length l) none in
    omega (arith, e, zero_left)

pub put_all : (ranges : List CodeRange) (out old all : List CodeRange) (at n : ℕ) → ranges ≡ []
    → take at out ++ ranges ≡ all → at + length ranges ≡ n → drop n out ≡ drop n old → out ≡ all ++ drop n old
put_all ranges out old all at n none e count same =
    let at_end : at ≡ n = counted_all ranges at n none count in
    let front : take n out ≡ all =
    subst (λ (k : ℕ). take k out ≡ all) at_end
    (sym (append-nil (take at out)) ∙ (ap (λ (l : List CodeRange). take at out ++ l) (sym none) ∙ e)) in
    sym (take-append-drop n out) ∙ (ap (λ (l : List CodeRange). l ++ drop n out) front
    ∙ ap (λ (l : List CodeRange). all ++ l) same)
