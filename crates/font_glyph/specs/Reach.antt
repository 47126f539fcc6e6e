-- What chains of components reach (OpenType 1.9, glyf, Composite Glyph Description).
use Rattle.std.specs.Prelude.{◌≡◌, ℕ, zero, suc, Bool, true, false, nat_eq, ◌&&◌, ◌||◌, List, [], Contains}
use Rattle.std.specs.List.{list_any}
use Rattle.std.specs.Option.{unwrap_or}
use Rattle.font_glyph.specs.Record.{ComponentList, components_of, glyphs_of}
use Rattle.font_glyph.specs.declared.component.Component.{Component}

-- g is a component of the record b
pub record IsComponentOf (b : List ℕ) (g : ℕ) : Type 0 where
  pub list : List Component
  pub is : ComponentList b list
  pub among : Contains (glyphs_of list) g

-- a chain from a seed, each number in it a component of the record of the one before, ends at this number
pub data Reach (records : ℕ → List ℕ) (seeds : ℕ → Bool) : ℕ → Type 0 where
  seed : {g : ℕ} → seeds g ≡ true → Reach records seeds g
  part : {s g : ℕ} → Reach records seeds s → IsComponentOf (records s) g → Reach records seeds g

-- a set of numbers has the seeds, and the components of all its numbers
pub record IsClosed (records : ℕ → List ℕ) (seeds : ℕ → Bool) (has : ℕ → Type 0) : Type 0 where
  pub has_seeds : (g : ℕ) → seeds g ≡ true → has g
  pub has_parts : (s g : ℕ) → has s → IsComponentOf (records s) g → has g

-- whether g is a component of the record b
unfoldable pub names : List ℕ → ℕ → Bool
names b g = list_any (λ component. nat_eq component.glyph g) (unwrap_or (components_of b) [])

-- some number below n passes
abbrev pub any_below : (ℕ → Bool) → ℕ → Bool
any_below p zero = false
any_below p (suc n) = p n || any_below p n

-- a chain of at most k steps from a seed, each from a number below a count, ends at g
abbrev pub found_within : (ℕ → ℕ → Bool) → (ℕ → Bool) → ℕ → ℕ → ℕ → Bool
found_within leads seeds count zero g = seeds g
found_within leads seeds count (suc k) g =
    found_within leads seeds count k g
    || any_below (λ s. found_within leads seeds count k s && leads s g) count

-- what is found in enough rounds that no more can be found
unfoldable pub reached : (ℕ → List ℕ) → (ℕ → Bool) → ℕ → ℕ → Bool
reached records seeds count g = found_within (λ s. names (records s)) seeds count (suc count) g
