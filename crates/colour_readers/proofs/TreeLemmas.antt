-- Trees, one step at a time, and what is left of a room after them.
use Rattle.std.proofs.Common.{◌≡◌, ℕ, zero, suc, ◌-◌, ◌<◌, ◌≤◌, true, false, Bool, cond, eqb, leb, not, ◌&&◌, List, []}
use Rattle.std.proofs.Common.{◌∷◌, drop, get_or, length, Option, None, Some, refl, sym, ap, ◌∙◌, arith}
use Rattle.std.specs.Option.{option_and_then, option_map}
use Rattle.std.proofs.lemmas.Bool.{false_from_ne_true, le-leb, leb-true}
use Rattle.colour_tables.specs.PaintLists.{forest_size, tree_size}
use Rattle.colour_tables.specs.Paints.{Bare, Forest, Tree, all_trees, links_of, rest_of, shape_of, shape_size, tree_at}
use Rattle.colour_tables.specs.Paints.{tree_of, with_tree}
use Rattle.colour_tables.specs.declared.shape.Kind.{Kind}
use Rattle.colour_tables.specs.declared.shape.Shape.{Shape}
use Rattle.colour_readers.specs.Trees.{is_there, room_left, rooms, shape_at}
use Rattle.colour_readers.proofs.RoomLemmas.{after_both, left_after, no_matter}
use Rattle.colour_readers.proofs.ShapeLemmas.{named-same}

abbrev pub tree_with : Shape → List ℕ → Forest → Tree
tree_with s b below = record { shape = s; first = get_or b 0 0; rest = rest_of s b; below = below }

-- a tree is its shape, and the trees at its links
pub tree_step : (n : ℕ) (t layers : List ℕ) (d at : ℕ) (k : Kind)
    → tree_at n t layers (suc d) at k
    ≡ option_and_then (λ s. option_map (tree_with s (drop at t))
    (all_trees (tree_at n t layers d) (links_of layers s at (drop at t)))) (shape_at n t at k)
tree_step n t layers d at k =
    step n k at (drop at t) (λ s. all_trees (tree_at n t layers d) (links_of layers s at (drop at t)))
    (shape_of k (drop at t)) refl
  where
    by_test : (b : List ℕ) (below : Shape → Option Forest) (c : Bool) (s : Shape)
        → cond c (option_map (tree_with s b) (below s)) None
        ≡ option_and_then (λ s. option_map (tree_with s b) (below s)) (cond c (Some s) None)
    by_test b below true s = refl
    by_test b below false s = refl

    step : (n : ℕ) (k : Kind) (at : ℕ) (b : List ℕ) (below : Shape → Option Forest) (o : Option Shape)
        → shape_of k b ≡ o
        → option_and_then (λ s. tree_of n k at b (below s) s) o
        ≡ option_and_then (λ s. option_map (tree_with s b) (below s))
        (option_and_then (λ s. cond (is_there n at k b s) (Some s) None) o)
    step n k at b below None e = refl
    step n k at b below (Some s) e =
        ap (λ c. cond (not (eqb at 0) && leb (shape_size s) (length b) && c)
        (option_map (tree_with s b) (below s)) None)
        (named-same n k b s e)
        ∙ by_test b below (is_there n at k b s) s

-- rooms
after_none : (room : ℕ) → room_left forest_size room (Some Bare) ≡ Some room
after_none room =
    let all : room - 0 ≡ room = omega arith in
    ap (λ b. cond b (Some (room - 0)) None) (le-leb 0 room (omega arith)) ∙ ap (λ (m : ℕ). Some m) all

with_left : (room : ℕ) (tree : Tree) (others : Option Forest)
    → room_left forest_size room (option_map (with_tree tree) others)
    ≡ cond (leb (tree_size tree) room) (room_left forest_size (room - tree_size tree) others) None
with_left room tree None = sym (no_matter (leb (tree_size tree) room) None)
with_left room tree (Some others) = sym (after_both (tree_size tree) (forest_size others) room)

then_test : (c : Bool) (m : ℕ) (f : ℕ → Option ℕ) → cond c (f m) None ≡ option_and_then f (cond c (Some m) None)
then_test true m f = refl
then_test false m f = refl

pub rooms_all : (f : ℕ → Kind → Option Tree) (room : ℕ) (xs : List (ℕ × Kind))
    → room_left forest_size room (all_trees f xs) ≡ rooms f room xs
rooms_all f room [] = after_none room
rooms_all f room (x ∷ xs) =
    step room (all_trees f xs) (λ left. rooms f left xs) (λ left. rooms_all f left xs) (f x.0 x.1)
  where
    step : (room : ℕ) (others : Option Forest) (after : ℕ → Option ℕ)
        → ((left : ℕ) → room_left forest_size left others ≡ after left) → (o : Option Tree)
        → room_left forest_size room (option_and_then (λ tree. option_map (with_tree tree) others) o)
        ≡ option_and_then after (room_left tree_size room o)
    step room others after e None = refl
    step room others after e (Some tree) =
        with_left room tree others
        ∙ ap (λ z. cond (leb (tree_size tree) room) z None) (e (room - tree_size tree))
        ∙ then_test (leb (tree_size tree) room) (room - tree_size tree) after

then_none : (c : Bool) (m : ℕ) → ◌≡◌ {A = Option ℕ} None (option_and_then (λ left. None) (cond c (Some m) None))
then_none true m = refl
then_none false m = refl

node_left : (room : ℕ) (s : Shape) (b : List ℕ) (below : Option Forest)
    → room_left tree_size room (option_map (tree_with s b) below)
    ≡ option_and_then (λ left. room_left forest_size left below) (left_after (shape_size s) room)
node_left room s b None = then_none (leb (shape_size s) room) (room - shape_size s)
node_left room s b (Some below) =
    sym (after_both (shape_size s) (forest_size below) room)
    ∙ then_test (leb (shape_size s) room) (room - shape_size s) (left_after (forest_size below))

-- what is left after a tree, by its shape and by what is left after the trees at its links
pub room_step : (n : ℕ) (t layers : List ℕ) (d at : ℕ) (k : Kind) (room : ℕ) → 0 < d
    → room_left tree_size room (tree_at n t layers d at k)
    ≡ option_and_then (λ s. option_and_then
    (λ left. rooms (tree_at n t layers (d - 1)) left (links_of layers s at (drop at t)))
    (left_after (shape_size s) room)) (shape_at n t at k)
room_step n t layers zero at k room h = absurd (omega (arith, h))
room_step n t layers (suc d) at k room h =
    let less : d ≡ suc d - 1 = omega arith in
    ap (room_left tree_size room) (tree_step n t layers d at k)
    ∙ step (shape_at n t at k)
    ∙ ap (λ (m : ℕ). option_and_then (λ s. option_and_then
    (λ left. rooms (tree_at n t layers m) left (links_of layers s at (drop at t)))
    (left_after (shape_size s) room)) (shape_at n t at k)) less
  where
    step : (o : Option Shape)
        → room_left tree_size room (option_and_then (λ s. option_map (tree_with s (drop at t))
        (all_trees (tree_at n t layers d) (links_of layers s at (drop at t)))) o)
        ≡ option_and_then (λ s. option_and_then
        (λ left. rooms (tree_at n t layers d) left (links_of layers s at (drop at t)))
        (left_after (shape_size s) room)) o
    step None = refl
    step (Some s) =
        let all = all_trees (tree_at n t layers d) (links_of layers s at (drop at t)) in
        node_left room s (drop at t) all
        ∙ (λ i. option_and_then
        (λ left. rooms_all (tree_at n t layers d) left (links_of layers s at (drop at t)) i)
        (left_after (shape_size s) room))

pub rooms_more : (f : ℕ → Kind → Option Tree) (left next : ℕ) (xs rest : List (ℕ × Kind)) (x : ℕ × Kind)
    → xs ≡ x ∷ rest → Some next ≡ room_left tree_size left (f x.0 x.1) → rooms f left xs ≡ rooms f next rest
rooms_more f left next xs rest x e h =
    ap (rooms f left) e ∙ ap (option_and_then (λ left. rooms f left rest)) (sym h)

pub rooms_fail : (f : ℕ → Kind → Option Tree) (left : ℕ) (xs rest : List (ℕ × Kind)) (x : ℕ × Kind)
    → xs ≡ x ∷ rest → None ≡ room_left tree_size left (f x.0 x.1) → rooms f left xs ≡ None
rooms_fail f left xs rest x e h =
    ap (rooms f left) e ∙ ap (option_and_then (λ left. rooms f left rest)) (sym h)

-- what a walk knows of a tree at its begin
pub walk_no_shape : (n : ℕ) (t layers : List ℕ) (d at : ℕ) (k : Kind) (room : ℕ) → 0 < d → None ≡ shape_at n t at k
    → None ≡ room_left tree_size room (tree_at n t layers d at k)
walk_no_shape n t layers d at k room h e =
    sym (room_step n t layers d at k room h
    ∙ ap (option_and_then (λ s. option_and_then
    (λ left. rooms (tree_at n t layers (d - 1)) left (links_of layers s at (drop at t)))
    (left_after (shape_size s) room))) (sym e))

pub walk_shape : (n : ℕ) (t layers : List ℕ) (d at : ℕ) (k : Kind) (room : ℕ) (s : Shape) → 0 < d
    → Some s ≡ shape_at n t at k
    → room_left tree_size room (tree_at n t layers d at k)
    ≡ option_and_then (λ left. rooms (tree_at n t layers (d - 1)) left (links_of layers s at (drop at t)))
    (left_after (shape_size s) room)
walk_shape n t layers d at k room s h e =
    room_step n t layers d at k room h
    ∙ ap (option_and_then (λ s. option_and_then
    (λ left. rooms (tree_at n t layers (d - 1)) left (links_of layers s at (drop at t)))
    (left_after (shape_size s) room))) (sym e)

pub walk_no_room : (n : ℕ) (t layers : List ℕ) (d at : ℕ) (k : Kind) (room size : ℕ) (s : Shape) → 0 < d
    → Some s ≡ shape_at n t at k → size ≡ shape_size s → (size ≤ room → ⊥)
    → None ≡ room_left tree_size room (tree_at n t layers d at k)
walk_no_room n t layers d at k room size s h e z l =
    sym (walk_shape n t layers d at k room s h e
    ∙ ap (λ b. option_and_then (λ left. rooms (tree_at n t layers (d - 1)) left (links_of layers s at (drop at t)))
    (cond b (Some (room - shape_size s)) None))
    (false_from_ne_true (leb (shape_size s) room) (λ q. l (omega (arith, z, leb-true (shape_size s) room q)))))

pub walk_begins : (n : ℕ) (t layers : List ℕ) (d at : ℕ) (k : Kind) (room size left : ℕ) (s : Shape) → 0 < d
    → Some s ≡ shape_at n t at k → size ≡ shape_size s → size ≤ room → left ≡ room - size
    → room_left tree_size room (tree_at n t layers d at k)
    ≡ rooms (tree_at n t layers (d - 1)) left (links_of layers s at (drop at t))
walk_begins n t layers d at k room size left s h e z l x =
    let rest : room - shape_size s ≡ left = omega (arith, z, x) in
    walk_shape n t layers d at k room s h e
    ∙ ap (λ b. option_and_then (λ left. rooms (tree_at n t layers (d - 1)) left (links_of layers s at (drop at t)))
    (cond b (Some (room - shape_size s)) None)) (le-leb (shape_size s) room (omega (arith, z, l)))
    ∙ ap (λ (m : ℕ). rooms (tree_at n t layers (d - 1)) m (links_of layers s at (drop at t))) rest
