-- Lists of what is said of spans of glyphs in order: tests of all glyphs, and sums over them.
use Rattle.std.proofs.Common.{◌≡◌, ℕ, zero, suc, ◌+◌, ◌-◌, ◌*◌, ◌<◌, ◌≤◌, min, Bool, true, false, cond, leb, ◌&&◌}
use Rattle.std.proofs.Common.{List, [], ◌∷◌, Option, None, Some, refl, sym, ap, ◌∙◌, arith, inl, inr}
use Rattle.std.specs.List.{list_all}
use Rattle.std.specs.Option.{option_map_or}
use Rattle.std.proofs.lemmas.Bool.{and_cases, and_from, and_left, and_parts, and_right, cases_lt, le-leb, leb-false}
use Rattle.std.proofs.lemmas.Bool.{leb-true}
use Rattle.std.proofs.lemmas.Bool.{lt-leb}
use Rattle.colour_tables.specs.ListedGlyphs.{each_below, sum_below}
use Rattle.colour_tables.proofs.GlyphLemmas.{each-at, sum-same}

-- tests that hold together are the same
pub same_tests : (a b : Bool) → (a ≡ true → b ≡ true) → (b ≡ true → a ≡ true) → a ≡ b
same_tests true b f g = sym (f refl)
same_tests false true f g = g refl
same_tests false false f g = refl

each-all : (f : ℕ → Bool) (n : ℕ) → ((g : ℕ) → g < n → f g ≡ true) → each_below f n ≡ true
each-all f zero e = refl
each-all f (suc n) e =
    and_from (each_below f n) (f n) (each-all f n (λ g l. e g (omega (arith, l)))) (e n (omega arith))

pub sum-plus : (a b : ℕ → ℕ) (n : ℕ) → sum_below (λ g. a g + b g) n ≡ sum_below a n + sum_below b n
sum-plus a b zero = refl
sum-plus a b (suc n) = omega (arith, sum-plus a b n)

pub sum-none : (n : ℕ) → sum_below (λ _. 0) n ≡ 0
sum-none zero = refl
sum-none (suc n) = omega (arith, sum-none n)

-- a glyph is one of a span
abbrev pub is_in : ℕ → ℕ → ℕ → Bool
is_in first last g = leb first g && leb g last

-- the sum of a number over the glyphs of a span
one-more : (first last n : ℕ) (b : Bool) → is_in first last n ≡ b
    → cond b 1 0 + (min n (last + 1) - first) ≡ min (suc n) (last + 1) - first
one-more first last n true e =
    let both = and_parts (leb first n) (leb n last) e in
    omega (arith, leb-true first n both.0, leb-true n last both.1)
one-more first last n false e = elim (and_cases (leb first n) (leb n last) e) [
  | inl l ↦ omega (arith, leb-false first n l)
  | inr r ↦ omega (arith, leb-false n last r)
]

ones : (first last n : ℕ) → sum_below (λ g. cond (is_in first last g) 1 0) n ≡ min n (last + 1) - first
ones first last zero = omega arith
ones first last (suc n) =
    omega (arith, ones first last n, one-more first last n (is_in first last n) refl)

times-one : (b : Bool) (s w : ℕ) → s * w + cond b w 0 ≡ (s + cond b 1 0) * w
times-one true s w = omega arith
times-one false s w = omega arith

times : (t : ℕ → Bool) (w n : ℕ) → sum_below (λ g. cond (t g) w 0) n ≡ sum_below (λ g. cond (t g) 1 0) n * w
times t w zero = omega arith
times t w (suc n) =
    ap (λ (s : ℕ). s + cond (t n) w 0) (times t w n)
    ∙ times-one (t n) (sum_below (λ g. cond (t g) 1 0) n) w

span_sum : (first last w n : ℕ) → last < n
    → sum_below (λ g. cond (is_in first last g) w 0) n ≡ (last + 1 - first) * w
span_sum first last w n h =
    let count : min n (last + 1) - first ≡ last + 1 - first = omega (arith, h) in
    times (is_in first last) w n ∙ ap (λ (s : ℕ). s * w) (ones first last n ∙ count)

module _ {X : Type 0} where
  -- the first member of whose span a glyph is
  abbrev pub pick : (X → ℕ) → (X → ℕ) → ℕ → List X → Option X
  pick first last g [] = None
  pick first last g (x ∷ xs) = cond (is_in (first x) (last x) g) (Some x) (pick first last g xs)

  -- spans in order, from a glyph on and below another
  abbrev pub Within : (X → ℕ) → (X → ℕ) → ℕ → ℕ → List X → Type 0
  Within first last from n [] = Unit {0}
  Within first last from n (x ∷ xs) =
      (from ≤ first x) × (first x ≤ last x) × (last x < n) × Within first last (last x + 1) n xs

  abbrev pub total : (X → ℕ) → (X → ℕ) → (X → ℕ) → List X → ℕ
  total first last w [] = 0
  total first last w (x ∷ xs) = (last x + 1 - first x) * w x + total first last w xs

  pub pick-before : (first last : X → ℕ) (from n g : ℕ) (xs : List X) → Within first last from n xs → g < from
      → pick first last g xs ≡ None
  pick-before first last from n g [] h l = refl
  pick-before first last from n g (x ∷ xs) h l =
      let out = and_left (leb (first x) g) (leb g (last x)) (lt-leb (first x) g (omega (arith, h.0, l))) in
      ap (λ b. cond b (Some x) (pick first last g xs)) out
      ∙ pick-before first last (last x + 1) n g xs h.3 (omega (arith, h.0, h.1, l))

  sum-at : (first last w : X → ℕ) (n g : ℕ) (x : X) (xs : List X) (b : Bool) → Within first last (last x + 1) n xs
      → is_in (first x) (last x) g ≡ b
      → option_map_or w (pick first last g (x ∷ xs)) 0
      ≡ cond (is_in (first x) (last x) g) (w x) 0 + option_map_or w (pick first last g xs) 0
  sum-at first last w n g x xs true h e =
      let both = and_parts (leb (first x) g) (leb g (last x)) e in
      let none = pick-before first last (last x + 1) n g xs h (omega (arith, leb-true g (last x) both.1)) in
      let zero_more : w x ≡ w x + 0 = omega arith in
      ap (λ b. option_map_or w (cond b (Some x) (pick first last g xs)) 0) e
      ∙ zero_more
      ∙ sym (ap (λ b. cond b (w x) 0 + option_map_or w (pick first last g xs) 0) e
      ∙ ap (λ (o : Option X). w x + option_map_or w o 0) none)
  sum-at first last w n g x xs false h e =
      let rest = option_map_or w (pick first last g xs) 0 in
      let zero_more : rest ≡ 0 + rest = omega arith in
      ap (λ b. option_map_or w (cond b (Some x) (pick first last g xs)) 0) e
      ∙ zero_more
      ∙ sym (ap (λ b. cond b (w x) 0 + option_map_or w (pick first last g xs) 0) e)

  pub pick_sum : (first last w : X → ℕ) (from n : ℕ) (xs : List X) → Within first last from n xs
      → sum_below (λ g. option_map_or w (pick first last g xs) 0) n ≡ total first last w xs
  pick_sum first last w from n [] h = sum-none n
  pick_sum first last w from n (x ∷ xs) h =
      let own : ℕ → ℕ = λ g. cond (is_in (first x) (last x) g) (w x) 0 in
      let others : ℕ → ℕ = λ g. option_map_or w (pick first last g xs) 0 in
      let both : sum_below (λ g. own g + others g) n ≡ sum_below own n + sum_below others n = sum-plus own others n in
      let one : sum_below own n ≡ (last x + 1 - first x) * w x = span_sum (first x) (last x) (w x) n h.2 in
      let more : sum_below others n ≡ total first last w xs = pick_sum first last w (last x + 1) n xs h.3 in
      sum-same (λ g. option_map_or w (pick first last g (x ∷ xs)) 0) (λ g. own g + others g) n
      (λ g l. sum-at first last w n g x xs (is_in (first x) (last x) g) h.3 refl)
      ∙ both ∙ (λ i. one i + more i)

  each-back : (first last : X → ℕ) (p : X → Bool) (g : ℕ) (xs : List X) → list_all p xs ≡ true
      → option_map_or p (pick first last g xs) true ≡ true
  each-back first last p g [] t = refl
  each-back first last p g (x ∷ xs) t =
      let both = and_parts (p x) (list_all p xs) t in
      by_test (is_in (first x) (last x) g) both.0 (each-back first last p g xs both.1)
    where
      by_test : (b : Bool) → p x ≡ true → option_map_or p (pick first last g xs) true ≡ true
          → option_map_or p (cond b (Some x) (pick first last g xs)) true ≡ true
      by_test true own rest = own
      by_test false own rest = rest

  each-on : (first last : X → ℕ) (p : X → Bool) (from n : ℕ) (xs : List X) → Within first last from n xs
      → ((g : ℕ) → g < n → option_map_or p (pick first last g xs) true ≡ true) → list_all p xs ≡ true
  each-on first last p from n [] h e = refl
  each-on first last p from n (x ∷ xs) h e =
      and_from (p x) (list_all p xs) own (each-on first last p (last x + 1) n xs h.3 rest)
    where
      own : p x ≡ true
      own =
          let here =
          and_from (leb (first x) (first x)) (leb (first x) (last x)) (le-leb (first x) (first x) (omega arith))
          (le-leb (first x) (last x) h.1) in
          sym (ap (λ b. option_map_or p (cond b (Some x) (pick first last (first x) xs)) true) here)
          ∙ e (first x) (omega (arith, h.1, h.2))

      rest : (g : ℕ) → g < n → option_map_or p (pick first last g xs) true ≡ true
      rest g l = elim (cases_lt g (last x + 1)) [
        | inl s ↦
            ap (λ (o : Option X). option_map_or p o true) (pick-before first last (last x + 1) n g xs h.3 s)
        | inr s ↦
            let out =
            and_right (leb (first x) g) (leb g (last x)) (lt-leb g (last x) (omega (arith, s))) in
            sym (ap (λ b. option_map_or p (cond b (Some x) (pick first last g xs)) true) out) ∙ e g l
      ]

  pub pick_each : (first last : X → ℕ) (p : X → Bool) (from n : ℕ) (xs : List X) → Within first last from n xs
      → each_below (λ g. option_map_or p (pick first last g xs) true) n ≡ list_all p xs
  pick_each first last p from n xs h =
      same_tests _ _
      (λ t. each-on first last p from n xs h
      (λ g l. each-at (λ g. option_map_or p (pick first last g xs) true) n g t l))
      (λ t. each-all (λ g. option_map_or p (pick first last g xs) true) n
      (λ g l. each-back first last p g xs t))
