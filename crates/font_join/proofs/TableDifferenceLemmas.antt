-- Whether two contents differ in a slot.
use Rattle.std.proofs.Common.{◌≡◌, ◌≢◌, ℕ, ◌≤◌, ◌&&◌, Bool, true, false, not, List, length, take, drop, sym, ◌∙◌, ap}
use Rattle.std.proofs.Common.{Option, Some, None}
use Rattle.std.specs.Option.{option_eq}
use Rattle.std.specs.Str.{bytes_eq}
use Rattle.std.proofs.lemmas.Bool.{ne_eqb}
use Rattle.font_theory.specs.Bytes.{cut_head}
use Rattle.font_theory.specs.Content.{Content}
use Rattle.font_theory.proofs.CutHeadLemmas.{bytes_eq-cut_head}
use Rattle.font_theory.specs.Difference.{is_different_table}

-- two are the same as a cut has them, under a name that code can give
pub same_heads : (a b : List ℕ) → 54 ≤ length a → 54 ≤ length b
    → bytes_eq (cut_head a) (cut_head b) ≡ (bytes_eq (take 8 a) (take 8 b)
    && (bytes_eq (take 38 (drop 12 a)) (take 38 (drop 12 b)) && bytes_eq (drop 52 a) (drop 52 b)))
same_heads = bytes_eq-cut_head

module _ (K L : Content) (slot : ℕ) where
  pub head_differs : (a b : List ℕ) (same : Bool) → slot ≡ 6 → K.head ≡ cut_head a → L.head ≡ cut_head b
      → same ≡ bytes_eq (cut_head a) (cut_head b) → not same ≡ is_different_table K L slot
  unfolding is_different_table
  head_differs a b same e x y h = rw e (ap not (h ∙ (λ i. bytes_eq (sym x i) (sym y i))))

  other_slot : (x y : Option (List ℕ)) → slot ≢ 6 → K.copied slot ≡ x → L.copied slot ≡ y
      → not (option_eq bytes_eq x y) ≡ is_different_table K L slot
  unfolding is_different_table
  other_slot x y other e f = let n = ne_eqb slot 6 other in rw n (λ i. not (option_eq bytes_eq (sym e i) (sym f i)))

  pub tables_differ : (a b : List ℕ) (same : Bool) → slot ≢ 6 → K.copied slot ≡ Some a → L.copied slot ≡ Some b
      → same ≡ bytes_eq a b → not same ≡ is_different_table K L slot
  tables_differ a b same other e f h = ap not h ∙ other_slot (Some a) (Some b) other e f

  pub tables_absent : slot ≢ 6 → K.copied slot ≡ None → L.copied slot ≡ None → false ≡ is_different_table K L slot
  tables_absent other e f = other_slot None None other e f

  pub first_alone : (a : List ℕ) → slot ≢ 6 → K.copied slot ≡ Some a → L.copied slot ≡ None
      → true ≡ is_different_table K L slot
  first_alone a other e f = other_slot (Some a) None other e f

  pub second_alone : (b : List ℕ) → slot ≢ 6 → K.copied slot ≡ None → L.copied slot ≡ Some b
      → true ≡ is_different_table K L slot
  second_alone b other e f = other_slot None (Some b) other e f
