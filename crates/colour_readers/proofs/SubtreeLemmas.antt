-- A tree that a table has, and the trees below it.
use Rattle.std.proofs.Common.{◌≡◌, ℕ, zero, suc, ◌+◌, ◌-◌, ◌<◌, ◌≤◌, true, false, List, [], ◌∷◌, drop, get_or, length}
use Rattle.std.proofs.Common.{replicate, take, unwrap_or, Option, None, Some, is_some, refl, subst, sym, ap, ◌∙◌, arith}
use Rattle.std.specs.Option.{option_and_then, option_map}
use Rattle.std.proofs.lemmas.Bool.{both_ways}
use Rattle.std.proofs.lemmas.List.{get_or-drop, get_or-take}
use Rattle.std.proofs.lemmas.Option.{none-some, same_Some}
use Rattle.colour_tables.specs.MadePaints.{forest_count}
use Rattle.colour_tables.specs.Paints.{Bare, Forest, Tree, With, all_trees, kinds_below, links_of, rest_of, tree_at}
use Rattle.colour_tables.specs.Paints.{with_tree}
use Rattle.colour_tables.specs.declared.shape.Kind.{Kind}
use Rattle.colour_tables.specs.declared.shape.Kind.TheVariants.{Paint}
use Rattle.colour_tables.specs.declared.shape.Shape.{Shape}
use Rattle.colour_tables.specs.declared.shape.Shape.TheVariants.{Layers, One, Plain, Two}
use Rattle.colour_readers.specs.Subtrees.{no_tree, trees_after}
use Rattle.colour_readers.specs.Trees.{link_at, link_count, shape_at}
use Rattle.colour_readers.proofs.SameLemmas.{tree_is}
use Rattle.colour_readers.proofs.ShapeLemmas.{link_there, links-long}
use Rattle.colour_readers.proofs.TreeLemmas.{tree_step, tree_with}

-- what is known of a tree by the shape at its place
pub record IsTreeOf (n : ℕ) (t layers : List ℕ) (d at : ℕ) (s : Shape) (x : Tree) : Type 0 where
  pub shape : s ≡ x.shape
  pub first : get_or (drop at t) 0 0 ≡ x.first
  pub rest : rest_of s (drop at t) ≡ x.rest
  pub below : all_trees (tree_at n t layers (d - 1)) (links_of layers s at (drop at t)) ≡ Some x.below

pub tree_known : (n : ℕ) (t layers : List ℕ) (d at : ℕ) (k : Kind) (s : Shape)
    → is_some (tree_at n t layers d at k) ≡ true → Some s ≡ shape_at n t at k
    → IsTreeOf n t layers d at s (unwrap_or (tree_at n t layers d at k) no_tree)
tree_known n t layers zero at k s some e = absurd (both_ways false refl some)
tree_known n t layers (suc d) at k s some e =
    go (all_trees (tree_at n t layers (suc d - 1)) (links_of layers s at (drop at t))) refl
    (tree_at n t layers (suc d) at k) (tree_is n t layers (suc d) at k s (omega arith) e) some
  where
    go : (all : Option Forest)
        → all_trees (tree_at n t layers (suc d - 1)) (links_of layers s at (drop at t)) ≡ all → (o : Option Tree)
        → o ≡ option_map (tree_with s (drop at t)) all → is_some o ≡ true
        → IsTreeOf n t layers (suc d) at s (unwrap_or o no_tree)
    go None h o z some = absurd (both_ways (is_some o) (ap is_some z) some)
    go (Some f) h o z some =
        subst (λ (p : Option Tree). IsTreeOf n t layers (suc d) at s (unwrap_or p no_tree)) (sym z)
        (record { shape = refl; first = refl; rest = refl; below = h })

pub no_shape_no_tree : (n : ℕ) (t layers : List ℕ) (d at : ℕ) (k : Kind)
    → is_some (tree_at n t layers d at k) ≡ true → None ≡ shape_at n t at k → ⊥
no_shape_no_tree n t layers zero at k some e = both_ways false refl some
no_shape_no_tree n t layers (suc d) at k some e =
    both_ways (is_some (tree_at n t layers (suc d) at k))
    (ap is_some (tree_step n t layers d at k ∙ ap (option_and_then (λ s. option_map (tree_with s (drop at t))
    (all_trees (tree_at n t layers d) (links_of layers s at (drop at t))))) (sym e))) some

-- trees in a row
pub both_some : (o : Option Tree) (a : Option Forest) (f : Forest)
    → option_and_then (λ tree. option_map (with_tree tree) a) o ≡ Some f
    → (x : Tree) × (r : Forest) × (o ≡ Some x) × (a ≡ Some r) × (with_tree x r ≡ f)
both_some None a f e = absurd (none-some _ e)
both_some (Some o) None f e = absurd (none-some _ e)
both_some (Some o) (Some r) f e = (o, r, refl, refl, same_Some (with_tree o r) f e)

none_after : (i : ℕ) → trees_after i Bare ≡ Bare
none_after zero = refl
none_after (suc i) = refl

pub all_after : (f : ℕ → Kind → Option Tree) (i : ℕ) (xs : List (ℕ × Kind)) (forest : Forest)
    → all_trees f xs ≡ Some forest → all_trees f (drop i xs) ≡ Some (trees_after i forest)
all_after f zero xs forest e = e
all_after f (suc i) [] forest e =
    ap (λ (z : Forest). Some (trees_after (suc i) z)) (same_Some Bare forest e)
all_after f (suc i) (x ∷ xs) forest e =
    let both = both_some (f x.0 x.1) (all_trees f xs) forest e in
    all_after f i xs both.1 both.3 ∙ ap (λ (z : Forest). Some (trees_after (suc i) z)) both.4

pub all_count : (f : ℕ → Kind → Option Tree) (xs : List (ℕ × Kind)) (forest : Forest)
    → all_trees f xs ≡ Some forest → length xs ≡ forest_count forest
all_count f [] forest e = ap forest_count (same_Some Bare forest e)
all_count f (x ∷ xs) forest e =
    let both = both_some (f x.0 x.1) (all_trees f xs) forest e in
    ap suc (all_count f xs both.1 both.3) ∙ ap forest_count both.4

-- the tree at a link
pub record IsLinked (o : Option Tree) (i : ℕ) (below : Forest) : Type 0 where
  pub some : is_some o ≡ true
  pub tree : trees_after i below ≡ with_tree (unwrap_or o no_tree) (trees_after (i + 1) below)

pub linked : (f : ℕ → Kind → Option Tree) (layers : List ℕ) (s : Shape) (at : ℕ) (b : List ℕ) (i : ℕ) (below : Forest)
    → i < link_count s b → all_trees f (links_of layers s at b) ≡ Some below
    → IsLinked (f (link_at layers s at b i).0 (link_at layers s at b i).1) i below
linked f layers s at b i below h e =
    let x = link_at layers s at b i in
    let rest = drop (i + 1) (links_of layers s at b) in
    let both =
    both_some (f x.0 x.1) (all_trees f rest) (trees_after i below)
    (sym (ap (all_trees f) (link_there layers s at b i h)) ∙ all_after f i (links_of layers s at b) below e) in
    let after : both.1 ≡ trees_after (i + 1) below =
    same_Some both.1 (trees_after (i + 1) below)
    (sym both.3 ∙ all_after f (i + 1) (links_of layers s at b) below e) in
    record {
      some = ap is_some both.2;
      tree = sym both.4 ∙ ap (with_tree both.0) after
          ∙ ap (λ (o : Option Tree). with_tree (unwrap_or o no_tree) (trees_after (i + 1) below)) (sym both.2);
    }

pub below_count : (f : ℕ → Kind → Option Tree) (layers : List ℕ) (s : Shape) (at : ℕ) (b : List ℕ) (below : Forest)
    → all_trees f (links_of layers s at b) ≡ Some below → link_count s b ≡ forest_count below
below_count f layers s at b below e =
    sym (links-long layers s at b) ∙ all_count f (links_of layers s at b) below e

-- kinds
same-length : (m : ℕ) (k : Kind) → length (replicate m k) ≡ m
same-length zero k = refl
same-length (suc m) k = ap suc (same-length m k)

second-byte : (b : List ℕ) → get_or (take 1 (drop 1 b)) 0 0 ≡ get_or b 1 0
second-byte b = get_or-take 1 (drop 1 b) 0 0 (omega arith) ∙ get_or-drop 1 b 0 0

pub kind_count : (s : Shape) (b : List ℕ) → length (kinds_below s (rest_of s b)) ≡ link_count s b
kind_count (Plain more) b = refl
kind_count (One more k) b = refl
kind_count (Two more k l) b = refl
kind_count Layers b = same-length (get_or (take 1 (drop 1 b)) 0 0) Paint ∙ second-byte b

-- what is left of copies
pub replicate_next : (m i : ℕ) (k : Kind) → i < m → drop i (replicate m k) ≡ k ∷ drop (i + 1) (replicate m k)
replicate_next zero i k h = absurd (omega (arith, h))
replicate_next (suc m) zero k h = refl
replicate_next (suc m) (suc i) k h =
    let next : suc (i + 1) ≡ suc i + 1 = omega arith in
    replicate_next m i k (omega (arith, h)) ∙ ap (λ (j : ℕ). k ∷ drop j (replicate (suc m) k)) next

pub layers_next : (s : Shape) (rest : List ℕ) (i : ℕ) → s ≡ Layers → i < length (kinds_below s rest)
    → drop i (kinds_below s rest) ≡ Paint ∷ drop (i + 1) (kinds_below s rest)
layers_next s rest i e =
    subst (λ (z : Shape). i < length (kinds_below z rest)
    → drop i (kinds_below z rest) ≡ Paint ∷ drop (i + 1) (kinds_below z rest)) (sym e)
    (λ h. replicate_next (get_or rest 0 0) i Paint (omega (arith, h, same-length (get_or rest 0 0) Paint)))

pub trees_end : (i : ℕ) (f : Forest) → forest_count f ≤ i → trees_after i f ≡ Bare
trees_end zero Bare h = refl
trees_end zero (With s first rest below after) h = absurd (omega (arith, h))
trees_end (suc i) Bare h = refl
trees_end (suc i) (With s first rest below after) h = trees_end i after (omega (arith, h))
