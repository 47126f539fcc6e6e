-- Laws of `gvar`, this project's own, each of them the contract of a function.
use Rattle.std.specs.Prelude.{◌≡◌, ℕ, ◌+◌, ◌<◌, ◌≤◌, false, List, length, Option}
use Rattle.std.specs.List.{All, concat}
use Rattle.font_variations.specs.Gvar.{data_array_offset, data_of, data_offset, front_of, is_bad_variations}
use Rattle.font_variations.specs.Gvar.{shared_tuples_of}
use Rattle.font_variations.specs.MadeGvar.{data_at, FitsGvar, gvar_bytes, HasAxes, IsForGvar, listed_data}

-- each offset of a table that is accepted leads into it, and none is above the next one
abbrev pub OffsetsLeadInside : Type 0
OffsetsLeadInside =
    (gvar : List ℕ) (fvar : Option (List ℕ)) (n j : ℕ) → is_bad_variations gvar fvar n ≡ false → j < n
    → (data_offset gvar j ≤ data_offset gvar (j + 1))
    × (data_array_offset gvar + data_offset gvar (j + 1) ≤ length gvar)

-- a table that is made is accepted
abbrev pub MadeIsAccepted : Type 0
MadeIsAccepted =
    (front shared : List ℕ) (of_glyph : ℕ → List ℕ) (n : ℕ) (fvar : Option (List ℕ)) → IsForGvar front shared
    → HasAxes front fvar → is_bad_variations (gvar_bytes front shared of_glyph n) fvar n ≡ false

-- so is one that is made of the first 8 bytes and the shared tuples of a table that is accepted, of whatever data
abbrev pub MadeOfPartsIsAccepted : Type 0
MadeOfPartsIsAccepted =
    (gvar : List ℕ) (fvar : Option (List ℕ)) (n : ℕ) (of_glyph : ℕ → List ℕ)
    → is_bad_variations gvar fvar n ≡ false
    → is_bad_variations (gvar_bytes (front_of gvar) (shared_tuples_of gvar) of_glyph n) fvar n ≡ false

-- what a table was made of
pub record IsMadeOf (gvar front shared : List ℕ) (of_glyph : ℕ → List ℕ) (n : ℕ) : Type 0 where
  pub front_is : front_of gvar ≡ front
  pub shared_is : shared_tuples_of gvar ≡ shared
  pub data_is : (g : ℕ) → g < n → data_of gvar g ≡ of_glyph g

-- it is read back
abbrev pub MadeIsReadBack : Type 0
MadeIsReadBack =
    (front shared : List ℕ) (of_glyph : ℕ → List ℕ) (n : ℕ) → IsForGvar front shared
    → IsMadeOf (gvar_bytes front shared of_glyph n) front shared of_glyph n

-- made again of what is read, it is itself
abbrev pub MadeAgain : List ℕ → ℕ → Type 0
MadeAgain gvar n = gvar_bytes (front_of gvar) (shared_tuples_of gvar) (data_of gvar) n ≡ gvar

abbrev pub MadeAgainIsItself : Type 0
MadeAgainIsItself =
    (front shared : List ℕ) (of_glyph : ℕ → List ℕ) (n : ℕ) → IsForGvar front shared
    → MadeAgain (gvar_bytes front shared of_glyph n) n

-- how many bytes it has
abbrev pub MadeHasSize : Type 0
MadeHasSize =
    (front shared : List ℕ) (of_glyph : ℕ → List ℕ) (n : ℕ) → length front ≡ 8
    → length (gvar_bytes front shared of_glyph n) ≡ data_at shared n + length (concat (listed_data of_glyph n))

-- all are bytes
abbrev pub AreBytes : List ℕ → Type 0
AreBytes = All (λ byte. byte < 256)

-- where numbers fit into their fields, it is made of bytes if its parts are
abbrev pub MadeIsOfBytes : Type 0
MadeIsOfBytes =
    (front shared : List ℕ) (of_glyph : ℕ → List ℕ) (n : ℕ) → FitsGvar shared of_glyph n → AreBytes front
    → AreBytes shared → ((g : ℕ) → g < n → AreBytes (of_glyph g)) → AreBytes (gvar_bytes front shared of_glyph n)
