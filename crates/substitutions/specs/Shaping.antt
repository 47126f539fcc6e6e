-- What a GSUB may make of glyphs (OpenType 1.9, GSUB).
use Rattle.std.specs.Prelude.{ℕ, List, [], ◌∷◌, ◌++◌}
use Rattle.std.specs.List.{All, Contains}
use Rattle.substitutions.specs.Substitution.{FormsLigature, Replaces}

-- a list without these glyphs of it, which stand in this order: the others are skipped, as lookupFlag says
pub data IsWithout : List ℕ → List ℕ → List ℕ → Type 0 where
  none : {list : List ℕ} → IsWithout [] list list
  taken : {g : ℕ} {gone list left : List ℕ} → IsWithout gone list left → IsWithout (g ∷ gone) (g ∷ list) left
  skipped : {g : ℕ} {gone list left : List ℕ} → IsWithout gone list left → IsWithout gone (g ∷ list) (g ∷ left)

-- one step: a lookup of the list is applied at a place. Which lookups, in which order and where is left open, so
-- scripts, features, lookupFlag, and the contexts of Lookup types 5, 6 and 8 forbid some of these steps, and add none:
-- types 5 and 6 only call lookups of the list
pub data Becomes (table : List ℕ) : List ℕ → List ℕ → Type 0 where
  replaced : (before : List ℕ) {glyph : ℕ} {outputs : List ℕ} (after : List ℕ) → Replaces table glyph outputs
      → Becomes table (before ++ glyph ∷ after) (before ++ outputs ++ after)
  ligated : (before : List ℕ) {glyph formed : ℕ} {others after left : List ℕ}
      → FormsLigature table glyph others formed → IsWithout others after left
      → Becomes table (before ++ glyph ∷ after) (before ++ formed ∷ left)

-- a run: any number of steps, between which a shaper may move, repeat and drop glyphs
pub data BecomesInSteps (table : List ℕ) : List ℕ → List ℕ → Type 0 where
  done : {list : List ℕ} → BecomesInSteps table list list
  step : {list next last : List ℕ} → Becomes table list next → BecomesInSteps table next last
      → BecomesInSteps table list last
  moved : {list next last : List ℕ} → All (Contains list) next → BecomesInSteps table next last
      → BecomesInSteps table list last
