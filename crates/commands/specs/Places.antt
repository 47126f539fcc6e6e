-- Where a walk over the mapped codes of a map stands, this project's own.
use Rattle.std.specs.Prelude.{◌≡◌, ℕ, ◌+◌, ◌≤◌, List, [], ◌∷◌, Option, None, Some}
use Rattle.codes.specs.Runs.{IsRun}
use Rattle.commands.specs.MappedGlyphs.{mapped_from}
use Rattle.commands.specs.declared.mapped_glyphs.Place.{Place}

-- a place is at a code of a run
pub record IsCodePlace (m : ℕ → ℕ) (place : Place) : Type 0 where
  pub from : ℕ
  pub run : IsRun m from place.run
  pub low : place.run.first ≤ place.code
  pub high : place.code ≤ place.run.last

-- it is at the first mapped code from a given one on
pub record IsPlaceFrom (m : ℕ → ℕ) (from : ℕ) (place : Place) : Type 0 where
  pub there : IsCodePlace m place
  pub from_on : from ≤ place.code
  pub first : mapped_from m from ≡ place.code ∷ mapped_from m (place.code + 1)

-- the mapped codes from a place on
abbrev pub codes_at : (ℕ → ℕ) → Option Place → List ℕ
codes_at m None = []
codes_at m (Some place) = place.code ∷ mapped_from m (place.code + 1)
