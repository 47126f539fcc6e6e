-- Members of a list in order of their codes, and the search for one (OpenType 1.9, cmap, formats 4 and 12).
use Rattle.std.specs.Prelude.{ℕ, suc, ◌≤◌, List, [], ◌∷◌, ◌<◌}

-- each member has a code, and lies strictly above the one before it; the first is not below a bound
abbrev pub AreInOrder : {X : Type 0} → (X → ℕ) → (X → ℕ) → ℕ → List X → Type 0
AreInOrder first last low [] = Unit {0}
AreInOrder first last low (x ∷ xs) =
    (low ≤ first x) × (first x ≤ last x) × AreInOrder first last (suc (last x)) xs

-- the ends of the first n members ascend
abbrev pub Ascends : (ℕ → ℕ) → ℕ → Type 0
Ascends end n = (i j : ℕ) → i < j → j < n → end i < end j

-- the first index below n whose end is not below a code, and n where there is none
pub record IsFirstReaching (end : ℕ → ℕ) (n c i : ℕ) : Type 0 where
  pub within : i ≤ n
  pub before : (k : ℕ) → k < i → end k < c
  pub here : i < n → c ≤ end i
