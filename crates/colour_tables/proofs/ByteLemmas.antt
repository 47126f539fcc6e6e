-- Numbers and lists that are bytes, and sums over what is said of glyphs.
use Rattle.std.proofs.Common.{◌≡◌, ℕ, zero, suc, ◌+◌, ◌<◌, ◌≤◌, List, [], ◌∷◌, length, get_or, take, drop}
use Rattle.std.proofs.Common.{Option, None, Some, IfSome, refl, ap, arith}
use Rattle.std.specs.Option.{option_map_or}
use Rattle.sfnt_bytes.specs.Number.{u16_at}
use Rattle.colour_tables.specs.ListedGlyphs.{AreBelow, listed, sum_below, with_glyph}
use Rattle.colour_tables.specs.MadeLayers.{bytes_of_u16, bytes_of_u24, bytes_of_u32}

-- bytes
abbrev pub AreBytes : List ℕ → Type 0
AreBytes b = AreBelow 256 b

-- numbers that are small enough
pub u16-bytes : (n : ℕ) → n < 65536 → AreBytes (bytes_of_u16 n)
u16-bytes n h = (omega (arith, h), (omega arith, tt))

pub u24-bytes : (n : ℕ) → n < 16777216 → AreBytes (bytes_of_u24 n)
u24-bytes n h = (omega (arith, h), (omega arith, (omega arith, tt)))

pub u32-bytes : (n : ℕ) → n < 4294967296 → AreBytes (bytes_of_u32 n)
u32-bytes n h = (omega (arith, h), (omega arith, (omega arith, (omega arith, tt))))

-- parts of lists
pub below-drop : (m k : ℕ) (xs : List ℕ) → AreBelow m xs → AreBelow m (drop k xs)
below-drop m zero xs are = are
below-drop m (suc k) [] are = tt
below-drop m (suc k) (x ∷ xs) are = below-drop m k xs are.1

pub below-take : (m k : ℕ) (xs : List ℕ) → AreBelow m xs → AreBelow m (take k xs)
below-take m zero xs are = tt
below-take m (suc k) [] are = tt
below-take m (suc k) (x ∷ xs) are = (are.0, below-take m k xs are.1)

pub below-get : (m k : ℕ) (xs : List ℕ) → 0 < m → AreBelow m xs → get_or xs k 0 < m
below-get m k [] some are = some
below-get m zero (x ∷ xs) some are = are.0
below-get m (suc k) (x ∷ xs) some are = below-get m k xs some are.1

pub below-less : (m k : ℕ) (xs : List ℕ) → m ≤ k → AreBelow m xs → AreBelow k xs
below-less m k [] h are = tt
below-less m k (x ∷ xs) h are = (omega (arith, h, are.0), below-less m k xs h are.1)

-- a number of two bytes
pub u16-small : (b : List ℕ) (at : ℕ) → AreBytes b → u16_at b at < 65536
unfolding u16_at
u16-small b at are =
    omega (arith, below-get 256 at b (omega arith) are, below-get 256 (at + 1) b (omega arith) are)

-- what is said of listed glyphs, which are below a number
abbrev pub AllSaid : {X : Type 0} → (X → Type 0) → ℕ → List (ℕ × X) → Type 0
AllSaid P end [] = Unit {0}
AllSaid P end (e ∷ es) = (e.0 < end) × P e.1 × AllSaid P end es

-- a sum over what is said of listed glyphs
abbrev pub sum_said : {X : Type 0} → (X → ℕ) → List (ℕ × X) → ℕ
sum_said f [] = 0
sum_said f (e ∷ es) = f e.1 + sum_said f es

module _ {X : Type 0} where
  all-with : (P : X → Type 0) (end a : ℕ) (o : Option X) (es : List (ℕ × X)) → a < end → IfSome o P
      → AllSaid P end es → AllSaid P end (with_glyph a o es)
  all-with P end a None es h is rest = rest
  all-with P end a (Some x) es h is rest = (h, is, rest)

  pub listed-all : (P : X → Type 0) (said : ℕ → Option X) → ((g : ℕ) → IfSome (said g) P) → (a m end : ℕ)
      → a + m ≤ end → AllSaid P end (listed said a m)
  listed-all P said are a zero end h = tt
  listed-all P said are a (suc m) end h =
      all-with P end a (said a) (listed said (a + 1) m) (omega (arith, h)) (are a)
      (listed-all P said are (a + 1) m end (omega (arith, h)))

  sum-with : (f : X → ℕ) (a : ℕ) (o : Option X) (es : List (ℕ × X))
      → sum_said f (with_glyph a o es) ≡ option_map_or f o 0 + sum_said f es
  sum-with f a None es = omega arith
  sum-with f a (Some x) es = refl

  sum-from : (f : X → ℕ) (said : ℕ → Option X) (a m : ℕ)
      → sum_below (λ g. option_map_or f (said g) 0) a + sum_said f (listed said a m)
      ≡ sum_below (λ g. option_map_or f (said g) 0) (a + m)
  sum-from f said a zero =
      let none : a + 0 ≡ a = omega arith in
      let same = ap (sum_below (λ g. option_map_or f (said g) 0)) none in omega (arith, same)
  sum-from f said a (suc m) =
      let next : a + 1 ≡ suc a = omega arith in
      let step = ap (sum_below (λ g. option_map_or f (said g) 0)) next in
      let end : a + 1 + m ≡ a + suc m = omega arith in
      let past = ap (sum_below (λ g. option_map_or f (said g) 0)) end in
      omega (arith, sum-with f a (said a) (listed said (a + 1) m), sum-from f said (a + 1) m, step, past)

  pub listed-sum : (f : X → ℕ) (said : ℕ → Option X) (n : ℕ)
      → sum_said f (listed said 0 n) ≡ sum_below (λ g. option_map_or f (said g) 0) n
  listed-sum f said n =
      let none : 0 + n ≡ n = omega arith in
      let same = ap (sum_below (λ g. option_map_or f (said g) 0)) none in
      omega (arith, sum-from f said 0 n, same)

  count-with : (a : ℕ) (o : Option X) (es : List (ℕ × X)) → length (with_glyph a o es) ≤ suc (length es)
  count-with a None es = omega arith
  count-with a (Some x) es = omega arith

  pub listed-count : (said : ℕ → Option X) (a m : ℕ) → length (listed said a m) ≤ m
  listed-count said a zero = omega arith
  listed-count said a (suc m) =
      omega (arith, count-with a (said a) (listed said (a + 1) m), listed-count said (a + 1) m)
