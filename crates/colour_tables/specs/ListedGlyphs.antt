-- What is said of the glyphs below a number, this project's own.
use Rattle.std.specs.Prelude.{ℕ, zero, suc, ◌+◌, ◌<◌, nat_eq, Bool, true, ◌&&◌, List, [], ◌∷◌, if◌then◌else◌}
use Rattle.std.specs.Prelude.{Option, None, Some}

-- a test holds for each glyph below a number
abbrev pub each_below : (ℕ → Bool) → ℕ → Bool
each_below test zero = true
each_below test (suc n) = each_below test n && test n

-- the sum over the glyphs below a number
abbrev pub sum_below : (ℕ → ℕ) → ℕ → ℕ
sum_below f zero = 0
sum_below f (suc n) = sum_below f n + f n

-- a glyph, where something is said of it, in front of those after it
abbrev pub with_glyph : {X : Type 0} → ℕ → Option X → List (ℕ × X) → List (ℕ × X)
with_glyph g None rest = rest
with_glyph g (Some x) rest = (g, x) ∷ rest

-- the glyphs of which something is said, in order: so many from one on
abbrev pub listed : {X : Type 0} → (ℕ → Option X) → ℕ → ℕ → List (ℕ × X)
listed said g zero = []
listed said g (suc k) = with_glyph g (said g) (listed said (g + 1) k)

-- what a list says of a glyph
abbrev pub said_of : {X : Type 0} → ℕ → List (ℕ × X) → Option X
said_of g [] = None
said_of g (e ∷ es) = if nat_eq e.0 g then Some e.1 else said_of g es

-- numbers are below another
abbrev pub AreBelow : ℕ → List ℕ → Type 0
AreBelow n [] = Unit {0}
AreBelow n (x ∷ xs) = (x < n) × AreBelow n xs
