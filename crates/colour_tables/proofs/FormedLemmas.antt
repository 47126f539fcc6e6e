-- What is known of a tree that is read.
use Rattle.std.proofs.Common.{arith, ◌≡◌, ℕ, zero, suc, ◌+◌, ◌≤◌, Bool, true, false, cond, eqb, leb, not, ◌&&◌}
use Rattle.std.proofs.Common.{List, [], ◌∷◌, ◌++◌, length, get_or, map, take, drop, replicate, Option, None, Some}
use Rattle.std.proofs.Common.{refl, ap, sym, subst, ◌∙◌, inl, inr}
use Rattle.std.specs.Option.{option_map}
use Rattle.std.proofs.lemmas.Bool.{and_parts, cases_Bool, leb-true}
use Rattle.std.proofs.lemmas.Option.{none-some, option_and_then_some, same_Some}
use Rattle.sfnt_bytes.specs.Number.{u32_at}
use Rattle.colour_tables.specs.MadePaints.{forest_of, forest_places, shape_bytes}
use Rattle.colour_tables.specs.PaintLists.{forest_size}
use Rattle.colour_tables.specs.Paints.{Bare, Forest, Tree, With, all_trees, layer_links, links_of, names_glyph}
use Rattle.colour_tables.specs.Paints.{rest_of, shape_of, shape_size, tree_at, tree_of, with_tree}
use Rattle.colour_tables.specs.Paints.{kinds_below}
use Rattle.colour_tables.specs.declared.shape.Kind.{Kind}
use Rattle.colour_tables.specs.declared.shape.Kind.TheVariants.{ClipBox, Paint}
use Rattle.colour_tables.specs.declared.shape.Shape.{Shape}
use Rattle.colour_tables.specs.declared.shape.Shape.TheVariants.{Layers, One, Plain, Two}
use Rattle.colour_tables.proofs.ForestLemmas.{Formed, IsTable}
use Rattle.colour_tables.proofs.ShapeLemmas.{rest-long, shape-again}

-- a tree is of a kind, and nested so deep at most
abbrev pub IsFormed : ℕ → ℕ → Kind → Tree → Type 0
IsFormed n d k tree = Formed n d (k ∷ []) (with_tree tree Bare)

-- in front of trees
pub formed-with : (n d : ℕ) (k : Kind) (ks : List Kind) (tree : Tree) (after : Forest) → IsFormed n d k tree
    → Formed n d ks after → Formed n d (k ∷ ks) (with_tree tree after)
formed-with n zero k ks tree after e f = absurd e
formed-with n (suc d) k ks tree after e f = (e.0, e.1, f)

abbrev kind_at : ℕ × Kind → Kind
kind_at x = x.1

-- the kinds of links are those of the shape
layer-kinds : (layers : List ℕ) (index m : ℕ) → map kind_at (layer_links layers index m) ≡ replicate m Paint
layer-kinds layers index zero = refl
layer-kinds layers index (suc m) = ap (λ (ks : List Kind). Paint ∷ ks) (layer-kinds layers (index + 1) m)

second-byte : (b : List ℕ) → get_or (take 1 (drop 1 b)) 0 0 ≡ get_or b 1 0
second-byte [] = refl
second-byte (x ∷ []) = refl
second-byte (x ∷ y ∷ b) = refl

links-kinds : (layers : List ℕ) (s : Shape) (at : ℕ) (b : List ℕ)
    → map kind_at (links_of layers s at b) ≡ kinds_below s (rest_of s b)
links-kinds layers (Plain more) at b = refl
links-kinds layers (One more k) at b = refl
links-kinds layers (Two more k l) at b = refl
links-kinds layers Layers at b =
    layer-kinds layers (u32_at b 2) (get_or b 1 0) ∙ ap (λ (m : ℕ). replicate m Paint) (sym (second-byte b))

-- what is mapped to something
pub map-some : {A B P : Type 0} (f : A → B) (o : Option A) (y : B) → option_map f o ≡ Some y
    → ((x : A) → o ≡ Some x → f x ≡ y → P) → P
map-some f None y e k = absurd (none-some y e)
map-some f (Some x) y e k = k x refl (same_Some (f x) y e)

module _ (n : ℕ) (t layers : List ℕ) where
  abbrev read : ℕ → ℕ → Kind → Option Tree
  read d = tree_at n t layers d

  abbrev AllFormed : ℕ → Type 0
  AllFormed d = (at : ℕ) (k : Kind) (tree : Tree) → read d at k ≡ Some tree → IsFormed n d k tree

  pub forest-formed : (d : ℕ) → AllFormed d → (xs : List (ℕ × Kind)) (f : Forest) → all_trees (read d) xs ≡ Some f
      → Formed n d (map kind_at xs) f
  forest-formed d formed [] f e = subst (Formed n d []) (same_Some Bare f e) refl
  forest-formed d formed (x ∷ xs) f e =
      option_and_then_some (λ tree. option_map (with_tree tree) (all_trees (read d) xs)) (read d x.0 x.1) f e
      (λ tree is more.
      map-some (with_tree tree) (all_trees (read d) xs) f more
      (λ after rest same. subst (Formed n d (x.1 ∷ map kind_at xs)) same
      (formed-with n d x.1 (map kind_at xs) tree after (formed x.0 x.1 tree is)
      (forest-formed d formed xs after rest))))

  table-of : (k : Kind) (s : Shape) (b : List ℕ) → shape_of k b ≡ Some s → shape_size s ≤ length b
      → names_glyph n k (get_or b 0 0) (rest_of s b) ≡ true → IsTable n k s (get_or b 0 0) (rest_of s b)
  table-of k s b e h named = record {
    shape = λ size index z. shape-again k s b size index z e h;
    size = rest-long s b h;
    named = named;
  }

  -- a tree of a shape
  shape-formed : (d at : ℕ) (k : Kind) (s : Shape) (b : List ℕ) (tree : Tree) → AllFormed d → shape_of k b ≡ Some s
      → tree_of n k at b (all_trees (read d) (links_of layers s at b)) s ≡ Some tree → IsFormed n (suc d) k tree
  shape-formed d at k s b tree formed e is = elim (cases_Bool test) [
    | inl yes_it ↦
        let parts = and_parts (not (eqb at 0) && leb (shape_size s) (length b)) _ yes_it in
        let room = leb-true (shape_size s) (length b) (and_parts (not (eqb at 0)) _ parts.0).1 in
        map-some make (all_trees (read d) (links_of layers s at b)) tree
        (sym (ap (λ c. cond c (option_map make (all_trees (read d) (links_of layers s at b))) None) yes_it) ∙ is)
        (λ below under same. subst (IsFormed n (suc d) k) same (
          table-of k s b e room parts.1,
          subst (λ (ks : List Kind). Formed n d ks below) (links-kinds layers s at b)
              (forest-formed d formed (links_of layers s at b) below under),
          refl,
        ))
    | inr no_it ↦
        absurd (none-some tree
        (sym (ap (λ c. cond c (option_map make (all_trees (read d) (links_of layers s at b))) None) no_it) ∙ is))
  ]
    where
      test : Bool
      test = not (eqb at 0) && leb (shape_size s) (length b) && names_glyph n k (get_or b 0 0) (rest_of s b)

      make : Forest → Tree
      make = λ trees. record { shape = s; first = get_or b 0 0; rest = rest_of s b; below = trees }

  pub tree-formed : (d : ℕ) → AllFormed d
  tree-formed zero at k tree e = absurd (none-some tree e)
  tree-formed (suc d) at k tree e =
      let b = drop at t in
      option_and_then_some (λ s. tree_of n k at b (all_trees (read d) (links_of layers s at b)) s) (shape_of k b) tree
      e
      (λ s is more. shape-formed d at k s b tree (tree-formed d) is more)

-- a clip box is of a plain shape
box-plain : (b : List ℕ) (s : Shape) → shape_of ClipBox b ≡ Some s → (more : ℕ) × (s ≡ Plain more) × (more ≤ 12)
box-plain b s e = by_tests (eqb (get_or b 0 0) 1) (eqb (get_or b 0 0) 2) e
  where
    by_tests : (one two : Bool) → cond one (Some (Plain 8)) (cond two (Some (Plain 12)) None) ≡ Some s
        → (more : ℕ) × (s ≡ Plain more) × (more ≤ 12)
    by_tests true two e = (8, sym (same_Some (Plain 8) s e), omega arith)
    by_tests false true e = (12, sym (same_Some (Plain 12) s e), omega arith)
    by_tests false false e = absurd (none-some s e)

-- and is small
plain-size : (n d more : ℕ) (below : Forest) → Formed n d [] below → 1 + more + forest_size below ≡ 1 + more
plain-size n d more Bare e = omega arith
plain-size n d more (With s f r b a) e = absurd e

pub box-size : (n d : ℕ) (tree : Tree) → IsFormed n d ClipBox tree
    → shape_size tree.shape + forest_size tree.below ≤ 13
box-size n zero tree e = absurd e
box-size n (suc d) tree e =
    let plain =
    box-plain (shape_bytes tree.shape tree.first tree.rest 0 0 ++ []) tree.shape (e.0.shape 0 0 []) in
    subst (λ (s : Shape). Formed n d (kinds_below s tree.rest) tree.below
    → shape_size s + forest_size tree.below ≤ 13) (sym plain.1)
    (λ under. omega (arith, plain-size n d plain.0 tree.below under, plain.2)) e.1

-- and has no layers
plain-places : (n d at more : ℕ) (first : ℕ) (rest : List ℕ) (below after : Forest)
    → Formed n d [] below → forest_places at (With (Plain more) first rest below after)
    ≡ forest_places (at + (1 + more + forest_size below)) after
plain-places n d at more first rest Bare after e = refl
plain-places n d at more first rest (With s f r b a) after e = absurd e

box-places : (n d at : ℕ) (tree : Tree) (after : Forest) → IsFormed n d ClipBox tree
    → forest_places at (with_tree tree after)
    ≡ forest_places (at + (shape_size tree.shape + forest_size tree.below)) after
box-places n zero at tree after e = absurd e
box-places n (suc d) at tree after e =
    let plain =
    box-plain (shape_bytes tree.shape tree.first tree.rest 0 0 ++ []) tree.shape (e.0.shape 0 0 []) in
    subst (λ (s : Shape). Formed n d (kinds_below s tree.rest) tree.below
    → forest_places at (With s tree.first tree.rest tree.below after)
    ≡ forest_places (at + (shape_size s + forest_size tree.below)) after) (sym plain.1)
    (λ under. plain-places n d at plain.0 tree.first tree.rest tree.below after under) e.1

-- the trees of glyphs are of a kind
abbrev pub AreFormed : ℕ → ℕ → Kind → List (ℕ × Tree) → Type 0
AreFormed n d k [] = Unit {0}
AreFormed n d k (e ∷ es) = IsFormed n d k e.1 × AreFormed n d k es

pub all-formed : (n d : ℕ) (k : Kind) (es : List (ℕ × Tree)) → AreFormed n d k es
    → Formed n d (replicate (length es) k) (forest_of es)
all-formed n d k [] are = refl
all-formed n d k (e ∷ es) are =
    formed-with n d k (replicate (length es) k) e.1 (forest_of es) are.0 (all-formed n d k es are.1)

pub boxes-places : (n d at : ℕ) (es : List (ℕ × Tree)) → AreFormed n d ClipBox es
    → forest_places at (forest_of es) ≡ []
boxes-places n d at [] are = refl
boxes-places n d at (e ∷ es) are =
    box-places n d at e.1 (forest_of es) are.0
    ∙ boxes-places n d (at + (shape_size e.1.shape + forest_size e.1.below)) es are.1
