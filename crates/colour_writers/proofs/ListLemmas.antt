-- Lists of glyphs of which something is said, one glyph at a time.
use Rattle.std.proofs.Common.{◌≡◌, ℕ, suc, ◌+◌, ◌-◌, ◌<◌, ◌≤◌, List, [], length, Option, None, Some, refl, sym, ap, ◌∙◌}
use Rattle.std.proofs.Common.{arith}
use Rattle.colour_tables.specs.ListedGlyphs.{listed, with_glyph}
use Rattle.colour_writers.specs.Inside.{here}

module _ {X : Type 0} where
  -- what is left from a glyph on is what is said of it, and what is left after it
  pub listed_next : (x : ℕ → Option X) (g n : ℕ) → g < n
      → listed x g (n - g) ≡ with_glyph g (x g) (listed x (g + 1) (n - (g + 1)))
  listed_next x g n h =
      let less : n - g ≡ suc (n - (g + 1)) = omega (arith, h) in
      ap (listed x g) less

  pub listed_end : (x : ℕ → Option X) (g n : ℕ) → n ≤ g → listed x g (n - g) ≡ []
  listed_end x g n h =
      let none : n - g ≡ 0 = omega (arith, h) in
      ap (listed x g) none

  -- so whatever is made of the list from a glyph on is made of these
  pub list_step : {Y : Type 0} (f : List (ℕ × X) → Y) (x : ℕ → Option X) (g n : ℕ) (o : Option X) (all : Y) → g < n
      → o ≡ x g → f (listed x g (n - g)) ≡ all → f (with_glyph g o (listed x (g + 1) (n - (g + 1)))) ≡ all
  list_step f x g n o all h e is =
      ap (λ p. f (with_glyph g p (listed x (g + 1) (n - (g + 1))))) e ∙ sym (ap f (listed_next x g n h)) ∙ is

  pub list_ends : {Y : Type 0} (f : List (ℕ × X) → Y) (x : ℕ → Option X) (g n : ℕ) (all : Y) → n ≤ g
      → f (listed x g (n - g)) ≡ all → f [] ≡ all
  list_ends f x g n all h is = sym (ap f (listed_end x g n h)) ∙ is

  -- how many are left
  count_with : (g : ℕ) (o : Option X) (rest : List (ℕ × X)) → length (with_glyph g o rest) ≡ here o + length rest
  count_with g None rest = omega arith
  count_with g (Some x) rest = omega arith

  pub count_step : (x : ℕ → Option X) (g n : ℕ) (o : Option X) → g < n → o ≡ x g
      → here o + length (listed x (g + 1) (n - (g + 1))) ≡ length (listed x g (n - g))
  count_step x g n o h e =
      sym (count_with g o (listed x (g + 1) (n - (g + 1))))
      ∙ list_step (λ es. length es) x g n o (length (listed x g (n - g))) h e refl
