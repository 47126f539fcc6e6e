-- Words of private contracts and of proofs: no public clause names them.
use Rattle.std.specs.Prelude.{◌<◌, ◌≤◌, ℕ, ◌+◌, ◌-◌, ◌*◌, List, length}

-- `hmtx` has h pairs, one at least, and a bearing for each further glyph up to g
pub record HasMetric (hmtx : List ℕ) (h g : ℕ) : Type 0 where
  pub some : 0 < h
  pub pairs : 4 * h ≤ length hmtx
  pub bearings : h ≤ g → 4 * h + 2 * (g - h) + 2 ≤ length hmtx
