-- What is said of the glyphs below a number.
use Rattle.std.proofs.Common.{◌++◌, ◌≡◌, ℕ, zero, suc, ◌+◌, ◌<◌, ◌≤◌, Bool, true, false, cond, eqb, ◌&&◌, List, []}
use Rattle.std.proofs.Common.{◌∷◌, Option, None, Some, refl, ap, ◌∙◌, arith, inl, inr}
use Rattle.std.proofs.lemmas.Bool.{and_from, and_parts, cases_eq, eq-eqb, ne_eqb}
use Rattle.colour_tables.specs.ListedGlyphs.{AreBelow, each_below, listed, said_of, sum_below, with_glyph}

-- equal tests and numbers
pub each-same : (f h : ℕ → Bool) (n : ℕ) → ((g : ℕ) → g < n → f g ≡ h g) → each_below f n ≡ each_below h n
each-same f h zero e = refl
each-same f h (suc n) e =
    let rest = each-same f h n (λ g l. e g (omega (arith, l))) in
    let last = e n (omega arith) in λ i. rest i && last i

pub sum-same : (f h : ℕ → ℕ) (n : ℕ) → ((g : ℕ) → g < n → f g ≡ h g) → sum_below f n ≡ sum_below h n
sum-same f h zero e = refl
sum-same f h (suc n) e =
    let rest = sum-same f h n (λ g l. e g (omega (arith, l))) in
    let last = e n (omega arith) in λ i. rest i + last i

-- a test that holds where another does
pub each-from : (f h : ℕ → Bool) (n : ℕ) → ((g : ℕ) → g < n → f g ≡ true → h g ≡ true) → each_below f n ≡ true
    → each_below h n ≡ true
each-from f h zero e t = refl
each-from f h (suc n) e t =
    let both = and_parts (each_below f n) (f n) t in
    and_from (each_below h n) (h n) (each-from f h n (λ g l. e g (omega (arith, l))) both.0)
    (e n (omega arith) both.1)

pub each-at : (f : ℕ → Bool) (n g : ℕ) → each_below f n ≡ true → g < n → f g ≡ true
each-at f zero g t l = absurd (omega (arith, l))
each-at f (suc n) g t l =
    let both = and_parts (each_below f n) (f n) t in
    elim (cases_eq g n) [
      | inl e ↦ ap f e ∙ both.1
      | inr o ↦ each-at f n g both.0 (omega (arith, l, o))
    ]

-- smaller numbers
pub sum-less : (f h : ℕ → ℕ) (n : ℕ) → ((g : ℕ) → g < n → h g ≤ f g) → sum_below h n ≤ sum_below f n
sum-less f h zero e = omega arith
sum-less f h (suc n) e =
    omega (arith, sum-less f h n (λ g l. e g (omega (arith, l))), e n (omega arith))

-- numbers below another
pub below-append : (n : ℕ) (xs ys : List ℕ) → AreBelow n xs → AreBelow n ys → AreBelow n (xs ++ ys)
below-append n [] ys a b = b
below-append n (x ∷ xs) ys a b = (a.0, below-append n xs ys a.1 b)

-- what a list says of a glyph
module _ {X : Type 0} where
  said-here : (g a : ℕ) (o : Option X) (es : List (ℕ × X)) → eqb a g ≡ true → said_of g es ≡ None
      → said_of g (with_glyph a o es) ≡ o
  said-here g a None es t none = none
  said-here g a (Some x) es t none = ap (λ b. cond b (Some x) (said_of g es)) t

  said-past : (g a : ℕ) (o : Option X) (es : List (ℕ × X)) → eqb a g ≡ false
      → said_of g (with_glyph a o es) ≡ said_of g es
  said-past g a None es f = refl
  said-past g a (Some x) es f = ap (λ b. cond b (Some x) (said_of g es)) f

  said-before : (said : ℕ → Option X) (g a k : ℕ) → g < a → said_of g (listed said a k) ≡ None
  said-before said g a zero l = refl
  said-before said g a (suc k) l =
      said-past g a (said a) (listed said (a + 1) k) (ne_eqb a g (λ e. omega (arith, e, l)))
      ∙ said-before said g (a + 1) k (omega (arith, l))

  pub said-listed : (said : ℕ → Option X) (g a k : ℕ) → a ≤ g → g < a + k → said_of g (listed said a k) ≡ said g
  said-listed said g a zero h l = absurd (omega (arith, h, l))
  said-listed said g a (suc k) h l = elim (cases_eq a g) [
    | inl e ↦
        said-here g a (said a) (listed said (a + 1) k) (eq-eqb a g e)
        (said-before said g (a + 1) k (omega (arith, e)))
        ∙ ap said e
    | inr o ↦
        said-past g a (said a) (listed said (a + 1) k) (ne_eqb a g o)
        ∙ said-listed said g (a + 1) k (omega (arith, h, o)) (omega (arith, l))
  ]

  -- equal sayings are listed alike
  pub listed-same : (x y : ℕ → Option X) (a m : ℕ) → ((g : ℕ) → g < a + m → x g ≡ y g) → listed x a m ≡ listed y a m
  listed-same x y a zero e = refl
  listed-same x y a (suc m) e =
      let here = e a (omega arith) in
      let rest = listed-same x y (a + 1) m (λ g l. e g (omega (arith, l))) in
      λ i. with_glyph a (here i) (rest i)

  -- glyphs are listed in order, from a number on and below another
  abbrev pub Ascends : ℕ → ℕ → List (ℕ × X) → Type 0
  Ascends from end [] = Unit {0}
  Ascends from end (e ∷ es) = (from ≤ e.0) × (e.0 < end) × Ascends (e.0 + 1) end es

  ascends-from : (from later end : ℕ) (es : List (ℕ × X)) → from ≤ later → Ascends later end es → Ascends from end es
  ascends-from from later end [] h r = tt
  ascends-from from later end (e ∷ es) h r = (omega (arith, h, r.0), r.1, r.2)

  ascends-with : (a end : ℕ) (o : Option X) (es : List (ℕ × X)) → a < end → Ascends (a + 1) end es
      → Ascends a end (with_glyph a o es)
  ascends-with a end None es h r = ascends-from a (a + 1) end es (omega arith) r
  ascends-with a end (Some x) es h r = (omega arith, h, r)

  pub listed-ascends : (said : ℕ → Option X) (a k end : ℕ) → a + k ≤ end → Ascends a end (listed said a k)
  listed-ascends said a zero end h = tt
  listed-ascends said a (suc k) end h =
      ascends-with a end (said a) (listed said (a + 1) k) (omega (arith, h))
      (listed-ascends said (a + 1) k end (omega (arith, h)))
