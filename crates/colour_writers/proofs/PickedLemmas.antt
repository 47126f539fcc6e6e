-- What is picked of two tables.
use Rattle.std.proofs.Common.{◌≡◌, ℕ, List, Option, None, Some, subst, refl, sym}
use Rattle.std.specs.Option.{option_and_then}
use Rattle.colour_tables.specs.Laws.{AreRead, IsRead}
use Rattle.colour_tables.specs.ListedGlyphs.{said_of}
use Rattle.colour_tables.specs.PaintLists.{Colour, box_at, clip_place, clips_of, colour_at}
use Rattle.colour_tables.specs.PaintLists.{no_colour}
use Rattle.colour_tables.specs.PaintLists.{paint_at, roots_of, tree_in}
use Rattle.colour_tables.specs.Paints.{Tree}
use Rattle.colour_tables.specs.declared.shape.Kind.{Kind}
use Rattle.colour_tables.specs.declared.shape.Kind.TheVariants.{ClipBox, Paint}
use Rattle.colour_writers.specs.Picked.{by_side, picked_colour}
use Rattle.colour_writers.specs.declared.sides.Side.{Side}
use Rattle.colour_writers.specs.declared.sides.Side.TheVariants.{First, Second, Neither}

-- what holds of all three values holds of that of a side
of_side : {X : Type 0} (P : X → Type 0) (s : Side) (x y z : X) → P x → P y → P z → P (by_side s x y z)
of_side P First x y z a b c = a
of_side P Second x y z a b c = b
of_side P Neither x y z a b c = c

-- what two tables with two numbers of glyphs say
abbrev pub picked_by : (ℕ → Side) → ℕ → ℕ → List ℕ → List ℕ → ℕ → Colour
picked_by side n m t u g = by_side (side g) (colour_at n t g) (colour_at m u g) no_colour

same_picked : (side : ℕ → Side) (n m : ℕ) (t u : List ℕ) → n ≡ m
    → ◌≡◌ {A = ℕ → Colour} (picked_by side n m t u) (picked_colour side n t u)
same_picked side n m t u e = λ i g. by_side (side g) (colour_at n t g) (colour_at (sym e i) u g) no_colour

-- it is read
read_in : (n : ℕ) (t : List ℕ) (k : Kind) (o : Option ℕ) → IsRead n k (option_and_then (tree_in n t k) o)
read_in n t k None = tt
read_in n t k (Some at) = by_tree (tree_in n t k at) refl
  where
    by_tree : (o : Option Tree) → tree_in n t k at ≡ o → IsRead n k o
    by_tree None e = tt
    by_tree (Some tree) e = (t, at, e)

abbrev IsReadOf : ℕ → Colour → Type 0
IsReadOf n c = IsRead n Paint c.paint × IsRead n ClipBox c.box

colour_read : (n : ℕ) (t : List ℕ) (g : ℕ) → IsReadOf n (colour_at n t g)
unfolding paint_at box_at
colour_read n t g = (read_in n t Paint (said_of g (roots_of t)), read_in n t ClipBox (clip_place g (clips_of t)))

picked_read : (side : ℕ → Side) (n : ℕ) (t u : List ℕ) → AreRead n (picked_colour side n t u)
picked_read side n t u g =
    of_side (IsReadOf n) (side g) (colour_at n t g) (colour_at n u g) no_colour (colour_read n t g)
    (colour_read n u g) (tt, tt)

-- of a number that is that of both
pub read_picked : (side : ℕ → Side) (r n m : ℕ) (t u : List ℕ) → r ≡ n → n ≡ m
    → AreRead r (picked_by side n m t u)
read_picked side r n m t u e f =
    subst (λ (x : ℕ → Colour). AreRead r x) (sym (same_picked side n m t u f))
    (subst (λ (k : ℕ). AreRead k (picked_colour side n t u)) (sym e) (picked_read side n t u))
