-- What chains of links lead to, this project's own; the links of a number are other numbers.
use Rattle.std.specs.Prelude.{◌≡◌, ℕ, ◌<◌, suc, nat_eq, Bool, true, List, Contains}
use Rattle.std.specs.List.{list_any}
use Rattle.font_glyph.specs.Reach.{found_within}

-- a chain of links from a seed, each link that of a number below a limit, ends at this number
pub data Linked (links : ℕ → List ℕ) (seeds : ℕ → Bool) (limit : ℕ) : ℕ → Type 0 where
  start : {g : ℕ} → seeds g ≡ true → Linked links seeds limit g
  link : {s g : ℕ} → Linked links seeds limit s → s < limit → Contains (links s) g → Linked links seeds limit g

-- a set of numbers has the seeds, and the links of all its numbers below a limit
pub record IsLinkClosed (links : ℕ → List ℕ) (seeds : ℕ → Bool) (limit : ℕ) (has : ℕ → Type 0) : Type 0 where
  pub has_seeds : (g : ℕ) → seeds g ≡ true → has g
  pub has_links : (s g : ℕ) → s < limit → has s → Contains (links s) g → has g

-- whether g is among links
unfoldable pub is_among : List ℕ → ℕ → Bool
is_among links g = list_any (λ h. nat_eq h g) links

-- what is found in enough rounds that no more can be found
unfoldable pub is_linked : (ℕ → List ℕ) → (ℕ → Bool) → ℕ → ℕ → Bool
is_linked links seeds limit g = found_within (λ s. is_among (links s)) seeds limit (suc (suc limit)) g
