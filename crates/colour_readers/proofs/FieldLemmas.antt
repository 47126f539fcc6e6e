-- Numbers in bytes, where a byte past the end counts as 0, and rows of them.
use Rattle.std.proofs.Common.{◌≡◌, ℕ, zero, suc, ◌+◌, ◌*◌, ◌<◌, ◌≤◌, List, [], ◌∷◌, drop, get_or, length, sym, ap, ◌∙◌}
use Rattle.std.proofs.Common.{arith}
use Rattle.std.proofs.lemmas.List.{drop_all, drop-drop, drop_more, get_or-drop, get_or_past}
use Rattle.sfnt_bytes.specs.Number.{number, u16_at, u32_at}
use Rattle.colour_tables.specs.Paints.{u24_at}

pub drop_past : (b : List ℕ) (i : ℕ) → length b < i → [] ≡ drop i b
drop_past b i h = sym (drop_all i b (omega arith))

pub byte_past : (b : List ℕ) (i : ℕ) → length b ≤ i → 0 ≡ get_or b i 0
byte_past b i h = sym (get_or_past b i 0 h)

-- numbers of the bytes from a place on
byte-drop : (b : List ℕ) (m i j : ℕ) → m + i ≡ j → get_or (drop m b) i 0 ≡ get_or b j 0
byte-drop b m i j e = get_or-drop m b i 0 ∙ ap (λ (k : ℕ). get_or b k 0) e

pub u16-drop : (b : List ℕ) (m i j : ℕ) → m + i ≡ j → u16_at (drop m b) i ≡ u16_at b j
unfolding u16_at
u16-drop b m i j e =
    let one = byte-drop b m i j e in
    let two = byte-drop b m (i + 1) (j + 1) (omega (arith, e)) in
    λ x. one x * 256 + two x

pub u24-drop : (b : List ℕ) (m i j : ℕ) → m + i ≡ j → u24_at (drop m b) i ≡ u24_at b j
unfolding u24_at
u24-drop b m i j e =
    let one = byte-drop b m i j e in
    let two = byte-drop b m (i + 1) (j + 1) (omega (arith, e)) in
    let three = byte-drop b m (i + 2) (j + 2) (omega (arith, e)) in
    λ x. one x * 65536 + two x * 256 + three x

pub u32-drop : (b : List ℕ) (m i j : ℕ) → m + i ≡ j → u32_at (drop m b) i ≡ u32_at b j
unfolding u32_at
u32-drop b m i j e =
    let one = byte-drop b m i j e in
    let two = byte-drop b m (i + 1) (j + 1) (omega (arith, e)) in
    let three = byte-drop b m (i + 2) (j + 2) (omega (arith, e)) in
    let four = byte-drop b m (i + 3) (j + 3) (omega (arith, e)) in
    λ x. number (one x) (two x) (three x) (four x)

-- rows of so many bytes
module _ {X : Type 0} where
  pub record AreRows (f : ℕ → List ℕ → List X) (row : List ℕ → X) (size : ℕ) : Type 0 where
    pub none : (b : List ℕ) → f 0 b ≡ []
    pub more : (k : ℕ) (b : List ℕ) → f (suc k) b ≡ row b ∷ f k (drop size b)

  pub rows-long : (f : ℕ → List ℕ → List X) (row : List ℕ → X) (size : ℕ) → AreRows f row size
      → (k : ℕ) (b : List ℕ) → length (f k b) ≡ k
  rows-long f row size are zero b = ap length (are.none b)
  rows-long f row size are (suc k) b = ap length (are.more k b) ∙ ap suc (rows-long f row size are k (drop size b))

  pub rows-get : (f : ℕ → List ℕ → List X) (row : List ℕ → X) (size : ℕ) → AreRows f row size
      → (k i : ℕ) (b : List ℕ) (d : X) → i < k → get_or (f k b) i d ≡ row (drop (size * i) b)
  rows-get f row size are zero i b d h = absurd (omega (arith, h))
  rows-get f row size are (suc k) zero b d h =
      let place : 0 ≡ size * 0 = omega arith in
      ap (λ (xs : List X). get_or xs 0 d) (are.more k b) ∙ ap (λ (m : ℕ). row (drop m b)) place
  rows-get f row size are (suc k) (suc i) b d h =
      let place : size + size * i ≡ size * suc i = omega arith in
      ap (λ (xs : List X). get_or xs (suc i) d) (are.more k b)
      ∙ rows-get f row size are k i (drop size b) d (omega (arith, h))
      ∙ ap row (drop-drop (size * i) size b ∙ ap (λ (m : ℕ). drop m b) place)

  pub rows-drop : (f : ℕ → List ℕ → List X) (row : List ℕ → X) (size : ℕ) → AreRows f row size
      → (k i : ℕ) (b : List ℕ) → i < k → drop i (f k b) ≡ row (drop (size * i) b) ∷ drop (i + 1) (f k b)
  rows-drop f row size are k i b h =
      drop_more (f k b) i (row b) (omega (arith, h, rows-long f row size are k b))
      ∙ ap (λ (x : X). x ∷ drop (i + 1) (f k b)) (rows-get f row size are k i b (row b) h)
