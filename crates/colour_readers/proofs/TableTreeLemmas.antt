-- The tree that a table has at a place, by the bytes there.
use Rattle.std.proofs.Common.{◌≡◌, ℕ, zero, suc, ◌+◌, ◌-◌, ◌<◌, ◌≤◌, true, false, Bool, cond, leb, drop, length}
use Rattle.std.proofs.Common.{unwrap_or, MatchOption, Option, None, Some, is_some, refl, subst, sym, ap, ◌∙◌, arith}
use Rattle.std.proofs.lemmas.Bool.{both_ways, leb-false, leb-true}
use Rattle.colour_tables.specs.MadePaints.{forest_count}
use Rattle.colour_tables.specs.PaintLists.{forest_size, layer_places_of, tree_size}
use Rattle.colour_tables.specs.Paints.{Bare, Forest, Tree, With, kinds_below, shape_size, tree_at, with_tree}
use Rattle.colour_tables.specs.declared.shape.Kind.{Kind}
use Rattle.colour_tables.specs.declared.shape.Shape.{Shape}
use Rattle.colour_tables.specs.declared.shape.Shape.TheVariants.{Layers, One, Plain, Two}
use Rattle.colour_readers.specs.Subtrees.{no_tree, tree_of, trees_after}
use Rattle.colour_readers.specs.Trees.{link_at, link_count, room_left}
use Rattle.colour_readers.specs.declared.table_tree.TableTree.{TableTree}
use Rattle.colour_readers.proofs.SubtreeLemmas.{IsLinked, IsTreeOf, below_count, kind_count, linked, tree_known}

-- the trees of the table, nested less deep
abbrev trees_of : TableTree → ℕ → Kind → Option Tree
trees_of x = tree_at x.count x.bytes.now (layer_places_of x.bytes.now) (x.depth - 1)

pub known : (x : TableTree)
    → IsTreeOf x.count x.bytes.now (layer_places_of x.bytes.now) x.depth x.at x.shape (tree_of x)
unfolding tree_of
known x = tree_known x.count x.bytes.now (layer_places_of x.bytes.now) x.depth x.at x.kind x.shape x.some x.shape_is

kept : (o : Option Tree) → is_some o ≡ true → Some (unwrap_or o no_tree) ≡ o
kept None e = absurd (both_ways false refl e)
kept (Some x) e = refl

pub some_tree : (x : TableTree)
    → Some (tree_of x) ≡ tree_at x.count x.bytes.now (layer_places_of x.bytes.now) x.depth x.at x.kind
unfolding tree_of
some_tree x = kept (tree_at x.count x.bytes.now (layer_places_of x.bytes.now) x.depth x.at x.kind) x.some

pub count_known : (x : TableTree) → link_count x.shape (drop x.at x.bytes.now) ≡ forest_count (tree_of x).below
count_known x =
    below_count (trees_of x) (layer_places_of x.bytes.now) x.shape x.at (drop x.at x.bytes.now) (tree_of x).below
    (known x).below

pub kinds_known : (x : TableTree)
    → length (kinds_below (tree_of x).shape (tree_of x).rest) ≡ link_count x.shape (drop x.at x.bytes.now)
kinds_known x =
    (λ i. length (kinds_below (sym (known x).shape i) (sym (known x).rest i)))
    ∙ kind_count x.shape (drop x.at x.bytes.now)

pub below_known : (x : TableTree) (i : ℕ) (y : ℕ × Kind) → i < forest_count (tree_of x).below
    → y ≡ link_at (layer_places_of x.bytes.now) x.shape x.at (drop x.at x.bytes.now) i
    → IsLinked (trees_of x y.0 y.1) i (tree_of x).below
below_known x i y h e =
    subst (λ (z : ℕ × Kind). IsLinked (trees_of x z.0 z.1) i (tree_of x).below) (sym e)
    (linked (trees_of x) (layer_places_of x.bytes.now) x.shape x.at (drop x.at x.bytes.now) i (tree_of x).below
    (omega (arith, h, count_known x)) (known x).below)

-- sizes
shape_some : (s : Shape) → 0 < shape_size s
shape_some (Plain more) = omega arith
shape_some (One more k) = omega arith
shape_some (Two more k l) = omega arith
shape_some Layers = omega arith

after_less : (i : ℕ) (f : Forest) → forest_size (trees_after i f) ≤ forest_size f
after_less zero f = omega arith
after_less (suc i) Bare = omega arith
after_less (suc i) (With s first rest below after) = omega (arith, after_less i after)

pub below_smaller : (i : ℕ) (x tree : Tree) (after : Forest) → trees_after i x.below ≡ with_tree tree after
    → tree_size tree < tree_size x
below_smaller i x tree after e =
    omega (arith, shape_some x.shape, after_less i x.below, ap forest_size e)

pub room_known : (x : TableTree) (room : ℕ) (o : Option ℕ)
    → o ≡ room_left tree_size room (tree_at x.count x.bytes.now (layer_places_of x.bytes.now) x.depth x.at x.kind)
    → MatchOption o (room < tree_size (tree_of x)) (λ left. left + tree_size (tree_of x) ≡ room)
room_known x room o e =
    subst (λ (p : Option ℕ). MatchOption p (room < tree_size (tree_of x)) (λ left. left + tree_size (tree_of x) ≡ room))
    (ap (room_left tree_size room) (some_tree x) ∙ sym e) (by_test (leb (tree_size (tree_of x)) room) refl)
  where
    by_test : (b : Bool) → leb (tree_size (tree_of x)) room ≡ b
        → MatchOption (cond b (Some (room - tree_size (tree_of x))) None) (room < tree_size (tree_of x))
        (λ left. left + tree_size (tree_of x) ≡ room)
    by_test true t = omega (arith, leb-true (tree_size (tree_of x)) room t)
    by_test false t = omega (arith, leb-false (tree_size (tree_of x)) room t)
