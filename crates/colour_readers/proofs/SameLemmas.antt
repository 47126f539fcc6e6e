-- Trees of two tables that are the same.
use Rattle.std.proofs.Common.{◌≡◌, ℕ, zero, suc, ◌+◌, ◌-◌, ◌<◌, true, false, Bool, cond, eqb, List, [], ◌∷◌, drop}
use Rattle.std.proofs.Common.{get_or}
use Rattle.std.proofs.Common.{take, Option, None, Some, is_some, refl, subst, sym, ap, ◌∙◌, arith}
use Rattle.std.specs.Option.{option_and_then, option_map}
use Rattle.std.proofs.lemmas.Bool.{both_ways}
use Rattle.std.proofs.lemmas.List.{get_or-drop, get_or-take}
use Rattle.std.proofs.lemmas.Option.{none-some, same_Some}
use Rattle.colour_tables.specs.Paints.{Bare, Forest, Tree, With, all_trees, links_of, place_from, rest_of, tree_at}
use Rattle.colour_tables.specs.Paints.{u24_at, with_tree}
use Rattle.colour_tables.specs.declared.shape.Kind.{Kind}
use Rattle.colour_tables.specs.declared.shape.Shape.{Shape}
use Rattle.colour_tables.specs.declared.shape.Shape.TheVariants.{Layers, One, Plain, Two}
use Rattle.colour_readers.specs.Trees.{HasSameFields, IsSameShape, link_at, link_count, shape_at}
use Rattle.colour_readers.proofs.ShapeLemmas.{link_there}
use Rattle.colour_readers.proofs.TreeLemmas.{tree_step, tree_with}

-- what is there is something
something : {X : Type 0} (o : Option X) → is_some o ≡ true → (x : X) × (o ≡ Some x)
something None h = absurd (both_ways false refl h)
something (Some x) h = (x, refl)

-- links of the same shape
pub same_count : (s : Shape) (b c : List ℕ) → HasSameFields s b c → link_count s b ≡ link_count s c
same_count (Plain more) b c e = refl
same_count (One more k) b c e = refl
same_count (Two more k l) b c e = refl
same_count Layers b c e = sym (second b) ∙ ap (λ (xs : List ℕ). get_or xs 0 0) e.1 ∙ second c
  where
    second : (b : List ℕ) → get_or (take 1 (drop 1 b)) 0 0 ≡ get_or b 1 0
    second b = get_or-take 1 (drop 1 b) 0 0 (omega arith) ∙ get_or-drop 1 b 0 0

abbrev kind_of : ℕ × Kind → Kind
kind_of x = x.1

two_kinds : (z : Bool) (p q x y : ℕ) (k l : Kind) → kind_of (cond z (p, k) (q, l)) ≡ kind_of (cond z (x, k) (y, l))
two_kinds true p q x y k l = refl
two_kinds false p q x y k l = refl

pub same_kind : (layers others : List ℕ) (s : Shape) (at other : ℕ) (b c : List ℕ) (i : ℕ)
    → (link_at layers s at b i).1 ≡ (link_at others s other c i).1
same_kind layers others (Plain more) at other b c i = refl
same_kind layers others (One more k) at other b c i = refl
same_kind layers others (Two more k l) at other b c i =
    two_kinds (eqb i 0) (place_from at (u24_at b 1)) (place_from at (u24_at b (4 + more)))
    (place_from other (u24_at c 1)) (place_from other (u24_at c (4 + more))) k l
same_kind layers others Layers at other b c i = refl

-- a tree of a shape, by the trees at its links
pub tree_is : (n : ℕ) (t layers : List ℕ) (d at : ℕ) (k : Kind) (s : Shape) → 0 < d → Some s ≡ shape_at n t at k
    → tree_at n t layers d at k
    ≡ option_map (tree_with s (drop at t))
    (all_trees (tree_at n t layers (d - 1)) (links_of layers s at (drop at t)))
tree_is n t layers zero at k s h e = absurd (omega (arith, h))
tree_is n t layers (suc d) at k s h e =
    let less : d ≡ suc d - 1 = omega arith in
    tree_step n t layers d at k
    ∙ ap (option_and_then (λ s. option_map (tree_with s (drop at t))
    (all_trees (tree_at n t layers d) (links_of layers s at (drop at t))))) (sym e)
    ∙ ap (λ (m : ℕ). option_map (tree_with s (drop at t))
    (all_trees (tree_at n t layers m) (links_of layers s at (drop at t)))) less

-- the shape of a tree
has_shape : (n : ℕ) (t layers : List ℕ) (d at : ℕ) (k : Kind) (x : Tree) → 0 < d → tree_at n t layers d at k ≡ Some x
    → (Some x.shape ≡ shape_at n t at k) × (x.first ≡ get_or (drop at t) 0 0) × (x.rest ≡ rest_of x.shape (drop at t))
has_shape n t layers zero at k x h e = absurd (omega (arith, h))
has_shape n t layers (suc d) at k x h e =
    go (shape_at n t at k) (drop at t) (λ s. all_trees (tree_at n t layers d) (links_of layers s at (drop at t))) x
    (sym (tree_step n t layers d at k) ∙ e)
  where
    go : (o : Option Shape) (b : List ℕ) (below : Shape → Option Forest) (x : Tree)
        → option_and_then (λ s. option_map (tree_with s b) (below s)) o ≡ Some x
        → (Some x.shape ≡ o) × (x.first ≡ get_or b 0 0) × (x.rest ≡ rest_of x.shape b)
    go None b below x e = absurd (none-some x e)
    go (Some s) b below x e = inner (below s) e
      where
        inner : (f : Option Forest) → option_map (tree_with s b) f ≡ Some x
            → (Some x.shape ≡ Some s) × (x.first ≡ get_or b 0 0) × (x.rest ≡ rest_of x.shape b)
        inner None e = absurd (none-some x e)
        inner (Some f) e =
            let same = same_Some (tree_with s b f) x e in (
              λ i. Some (sym same i).shape,
              λ i. (sym same i).first,
              (λ i. (sym same i).rest) ∙ ap (λ (z : Shape). rest_of z b) (λ i. (same i).shape),
            )

-- trees that are the same have the same shape
pub apart : (n : ℕ) (t u layers others : List ℕ) (d at other : ℕ) (k : Kind) → 0 < d
    → is_some (tree_at n t layers d at k) ≡ true
    → ((s : Shape) → IsSameShape n t u at other k s → ⊥)
    → tree_at n t layers d at k ≡ tree_at n u others d other k → ⊥
apart n t u layers others d at other k h some no_shape e =
    let x = something (tree_at n t layers d at k) some in
    let one = has_shape n t layers d at k x.0 h x.1 in
    let two = has_shape n u others d other k x.0 h (sym e ∙ x.1) in
    no_shape x.0.shape (record {
      first = one.0;
      second = two.0;
      fields = (sym one.1 ∙ two.1, sym one.2 ∙ two.2);
    })

-- what is known of trees at the links that are left
pub record AreBelow (f g : ℕ → Kind → Option Tree) (xs ys : List (ℕ × Kind)) (x y : Option Tree) : Type 0 where
  pub some : is_some (all_trees f xs) ≡ true
  pub some_other : is_some (all_trees g ys) ≡ true
  pub up : all_trees f xs ≡ all_trees g ys → x ≡ y
  pub down : x ≡ y → all_trees f xs ≡ all_trees g ys

some_below : {A B : Type 0} (h : A → B) (o : Option A) → is_some (option_map h o) ≡ true → is_some o ≡ true
some_below h None e = e
some_below h (Some x) e = refl

below_same : (s : Shape) (b c : List ℕ) (f g : Option Forest) → is_some f ≡ true → is_some g ≡ true
    → option_map (tree_with s b) f ≡ option_map (tree_with s c) g → f ≡ g
below_same s b c None g p q e = absurd (both_ways false refl p)
below_same s b c (Some f) None p q e = absurd (both_ways false refl q)
below_same s b c (Some f) (Some g) p q e =
    let same = same_Some (tree_with s b f) (tree_with s c g) e in λ i. Some (same i).below

pub below_begins : (n : ℕ) (t u layers others : List ℕ) (d at other : ℕ) (k : Kind) (s : Shape) → 0 < d
    → IsSameShape n t u at other k s → is_some (tree_at n t layers d at k) ≡ true
    → is_some (tree_at n u others d other k) ≡ true
    → AreBelow (tree_at n t layers (d - 1)) (tree_at n u others (d - 1)) (links_of layers s at (drop at t))
    (links_of others s other (drop other u)) (tree_at n t layers d at k) (tree_at n u others d other k)
below_begins n t u layers others d at other k s h same p q =
    let b = drop at t in
    let c = drop other u in
    let f = all_trees (tree_at n t layers (d - 1)) (links_of layers s at b) in
    let g = all_trees (tree_at n u others (d - 1)) (links_of others s other c) in
    let one = tree_is n t layers d at k s h same.first in
    let two = tree_is n u others d other k s h same.second in
    let some = some_below (tree_with s b) f (sym (ap is_some one) ∙ p) in
    let some_other = some_below (tree_with s c) g (sym (ap is_some two) ∙ q) in
    let first = same.fields.0 in
    let rest = same.fields.1 in
    record {
      some = some;
      some_other = some_other;
      up = λ e.
          one
          ∙ (λ i. option_map (λ below. record { shape = s; first = first i; rest = rest i; below = below }) (e i))
          ∙ sym two;
      down = λ e. below_same s b c f g some some_other (sym one ∙ e ∙ two);
    }

abbrev first_of : Tree → Forest → Tree
first_of x Bare = x
first_of x (With s first rest below after) = record { shape = s; first = first; rest = rest; below = below }

abbrev after_of : Forest → Forest
after_of Bare = Bare
after_of (With s first rest below after) = after

-- the first of the trees that are left, and those after it
pub record Splits (o v : Option Tree) (a b : Option Forest) (p q : Option Tree) : Type 0 where
  pub some : is_some o ≡ true
  pub some_other : is_some v ≡ true
  pub rest : is_some a ≡ true
  pub rest_other : is_some b ≡ true
  pub up : o ≡ v → a ≡ b → p ≡ q
  pub down : p ≡ q → o ≡ v
  pub down_rest : p ≡ q → a ≡ b

splits : (o v : Option Tree) (a b : Option Forest) (p q : Option Tree)
    → is_some (option_and_then (λ tree. option_map (with_tree tree) a) o) ≡ true
    → is_some (option_and_then (λ tree. option_map (with_tree tree) b) v) ≡ true
    → (option_and_then (λ tree. option_map (with_tree tree) a) o
    ≡ option_and_then (λ tree. option_map (with_tree tree) b) v → p ≡ q)
    → (p ≡ q → option_and_then (λ tree. option_map (with_tree tree) a) o
    ≡ option_and_then (λ tree. option_map (with_tree tree) b) v)
    → Splits o v a b p q
splits None v a b p q x y up down = absurd (both_ways false refl x)
splits (Some o) None a b p q x y up down = absurd (both_ways false refl y)
splits (Some o) (Some v) None b p q x y up down = absurd (both_ways false refl x)
splits (Some o) (Some v) (Some a) None p q x y up down = absurd (both_ways false refl y)
splits (Some o) (Some v) (Some a) (Some b) p q x y up down =
    record {
      some = refl;
      some_other = refl;
      rest = refl;
      rest_other = refl;
      up = λ e h. up (λ i. option_and_then (λ tree. option_map (with_tree tree) (h i)) (e i));
      down = λ e. ap (option_map (first_of o)) (down e);
      down_rest = λ e. ap (option_map after_of) (down e);
    }

pub below_more : (f g : ℕ → Kind → Option Tree) (xs ys rest others : List (ℕ × Kind)) (x y : ℕ × Kind)
    (p q : Option Tree) → xs ≡ x ∷ rest → ys ≡ y ∷ others → AreBelow f g xs ys p q
    → Splits (f x.0 x.1) (g y.0 y.1) (all_trees f rest) (all_trees g others) p q
below_more f g xs ys rest others x y p q e h are =
    splits (f x.0 x.1) (g y.0 y.1) (all_trees f rest) (all_trees g others) p q
    (sym (ap (λ zs. is_some (all_trees f zs)) e) ∙ are.some)
    (sym (ap (λ zs. is_some (all_trees g zs)) h) ∙ are.some_other)
    (λ z. are.up (ap (all_trees f) e ∙ z ∙ sym (ap (all_trees g) h)))
    (λ z. sym (ap (all_trees f) e) ∙ are.down z ∙ ap (all_trees g) h)

pub below_next : (f g : ℕ → Kind → Option Tree) (rest others : List (ℕ × Kind)) (o v p q : Option Tree)
    → Splits o v (all_trees f rest) (all_trees g others) p q → o ≡ v → AreBelow f g rest others p q
below_next f g rest others o v p q are e =
    record { some = are.rest; some_other = are.rest_other; up = are.up e; down = are.down_rest }

pub below_end : (f g : ℕ → Kind → Option Tree) (xs ys : List (ℕ × Kind)) (p q : Option Tree) → xs ≡ [] → ys ≡ []
    → AreBelow f g xs ys p q → p ≡ q
below_end f g xs ys p q e h are = are.up (ap (all_trees f) e ∙ sym (ap (all_trees g) h))

-- the trees at a link of both
pub link_splits : (f g : ℕ → Kind → Option Tree) (layers others : List ℕ) (s : Shape) (at other : ℕ)
    (b c : List ℕ) (i : ℕ)
    (x y : ℕ × Kind) (p q : Option Tree) → HasSameFields s b c → i < link_count s b → x ≡ link_at layers s at b i
    → y ≡ link_at others s other c i
    → AreBelow f g (drop i (links_of layers s at b)) (drop i (links_of others s other c)) p q
    → Splits (f x.0 x.1) (g y.0 x.1) (all_trees f (drop (i + 1) (links_of layers s at b)))
    (all_trees g (drop (i + 1) (links_of others s other c))) p q
link_splits f g layers others s at other b c i x y p q same h e z are =
    let rest = drop (i + 1) (links_of layers s at b) in
    let after = drop (i + 1) (links_of others s other c) in
    let kinds : y.1 ≡ x.1 =
    ap kind_of z ∙ sym (same_kind layers others s at other b c i) ∙ sym (ap kind_of e) in
    subst (λ (k : Kind). Splits (f x.0 x.1) (g y.0 k) (all_trees f rest) (all_trees g after) p q) kinds
    (below_more f g (drop i (links_of layers s at b)) (drop i (links_of others s other c)) rest after x y p q
    (link_there layers s at b i h ∙ ap (λ (w : ℕ × Kind). w ∷ rest) (sym e))
    (link_there others s other c i (omega (arith, h, same_count s b c same)) ∙ ap (λ (w : ℕ × Kind). w ∷ after) (sym z))
    are)
