-- Words of private contracts and of proofs: no public clause names them.
use Rattle.std.specs.Prelude.{◌≡◌, ◌<◌, ◌≤◌, ℕ, ◌+◌, ◌*◌, nat_le, nat_lt, Bool, ◌&&◌, ◌||◌, List}
use Rattle.sfnt_bytes.specs.Number.{u16_at}
use Rattle.codes.specs.Order.{IsFirstReaching}
use Rattle.colour_readers.specs.declared.rows.Rows.{Rows}

-- where a row stands
abbrev pub place_of : Rows → ℕ → ℕ
place_of r i = r.list + r.before + r.size * i

-- its first and its last glyph
abbrev pub row_first : Rows → ℕ → ℕ
row_first r i = u16_at r.bytes.now (place_of r i)

abbrev pub row_last : Rows → ℕ → ℕ
row_last r i = u16_at r.bytes.now (place_of r i + r.last)

-- whether the first row that ends at a glyph or above it begins there or below
abbrev pub IsReached : Rows → ℕ → Bool → Type 0
IsReached r g b =
    (i : ℕ) × IsFirstReaching (row_last r) r.count g i × (b ≡ (nat_lt i r.count && nat_le (row_first r i) g))

-- a row is the first that ends at a glyph or above it, and begins there or below
pub record IsRowOf (r : Rows) (g i : ℕ) : Type 0 where
  pub reached : IsFirstReaching (row_last r) r.count g i
  pub inside : i < r.count
  pub begins : row_first r i ≤ g

-- whether it begins at another glyph or above, or there is none
abbrev pub LiesPast : Rows → ℕ → ℕ → Bool → Type 0
LiesPast r from to b =
    (i : ℕ) × IsFirstReaching (row_last r) r.count from i × (b ≡ (nat_le r.count i || nat_le to (row_first r i)))

-- rows of bytes stand so
pub record AreRowsAt (t : List ℕ) (list before size last count : ℕ) (r : Rows) : Type 0 where
  pub bytes_are : r.bytes.now ≡ t
  pub list_is : r.list ≡ list
  pub before_is : r.before ≡ before
  pub size_is : r.size ≡ size
  pub last_is : r.last ≡ last
  pub count_is : r.count ≡ count
