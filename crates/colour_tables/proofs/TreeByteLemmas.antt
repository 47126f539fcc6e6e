-- Trees that are read of bytes are written as bytes.
use Rattle.std.proofs.Common.{◌≡◌, ℕ, zero, suc, ◌+◌, ◌-◌, ◌<◌, ◌≤◌, Bool, cond, eqb, leb, not, ◌&&◌}
use Rattle.std.proofs.Common.{List, [], ◌∷◌, ◌++◌, length, get_or, drop, None, Some, refl, ap, sym, subst, ◌∙◌}
use Rattle.std.proofs.Common.{arith, inl, inr}
use Rattle.std.specs.Option.{option_map}
use Rattle.std.proofs.lemmas.Bool.{cases_Bool}
use Rattle.std.proofs.lemmas.Option.{none-some, option_and_then_some, same_Some}
use Rattle.colour_tables.specs.ListedGlyphs.{AreBelow}
use Rattle.colour_tables.specs.MadePaints.{clip_rows, first_size, forest_bytes, forest_count, forest_layers, forest_of}
use Rattle.colour_tables.specs.MadePaints.{forest_places, own_count, own_places, place_rows, root_rows, rooted}
use Rattle.colour_tables.specs.MadePaints.{shape_bytes}
use Rattle.colour_tables.specs.MadePaints.{starts}
use Rattle.colour_tables.specs.MadeLayers.{bytes_of_u16, bytes_of_u24, bytes_of_u32}
use Rattle.colour_tables.specs.PaintLists.{forest_size, tree_size}
use Rattle.colour_tables.specs.Paints.{Bare, Forest, Tree, With, all_trees, links_of, names_glyph, rest_of, shape_of}
use Rattle.colour_tables.specs.Paints.{shape_size, tree_at, tree_of, with_tree}
use Rattle.colour_tables.specs.declared.shape.Kind.{Kind}
use Rattle.colour_tables.specs.declared.shape.Shape.{Shape}
use Rattle.colour_tables.specs.declared.shape.Shape.TheVariants.{Layers, One, Plain, Two}
use Rattle.colour_tables.proofs.ByteLemmas.{AllSaid, AreBytes, below-drop, below-get, below-take, sum_said, u16-bytes}
use Rattle.colour_tables.proofs.ByteLemmas.{u24-bytes, u32-bytes}
use Rattle.colour_tables.proofs.FormedLemmas.{map-some}
use Rattle.colour_tables.proofs.GlyphLemmas.{below-append}

-- trees are of bytes
abbrev pub OfBytes : Forest → Type 0
OfBytes Bare = Unit {0}
OfBytes (With s first rest below after) = (first < 256) × AreBytes rest × OfBytes below × OfBytes after

rest-bytes : (s : Shape) (b : List ℕ) → AreBytes b → AreBytes (rest_of s b)
rest-bytes (Plain more) b are = below-take 256 more (drop 1 b) (below-drop 256 1 b are)
rest-bytes (One more k) b are = below-take 256 more (drop 4 b) (below-drop 256 4 b are)
rest-bytes (Two more k l) b are = below-take 256 more (drop 4 b) (below-drop 256 4 b are)
rest-bytes Layers b are = below-take 256 1 (drop 1 b) (below-drop 256 1 b are)

-- what is read of bytes
module _ (n : ℕ) (t layers : List ℕ) (bytes : AreBytes t) where
  abbrev AllOfBytes : ℕ → Type 0
  AllOfBytes d = (at : ℕ) (k : Kind) (tree : Tree) → tree_at n t layers d at k ≡ Some tree
      → OfBytes (with_tree tree Bare)

  forest-of_bytes : (d : ℕ) → AllOfBytes d → (xs : List (ℕ × Kind)) (f : Forest)
      → all_trees (tree_at n t layers d) xs ≡ Some f → OfBytes f
  forest-of_bytes d of [] f e = subst OfBytes (same_Some Bare f e) tt
  forest-of_bytes d of (x ∷ xs) f e =
      option_and_then_some (λ tree. option_map (with_tree tree) (all_trees (tree_at n t layers d) xs))
      (tree_at n t layers d x.0 x.1) f e
      (λ tree is more.
      map-some (with_tree tree) (all_trees (tree_at n t layers d) xs) f more
      (λ after rest same. subst OfBytes same
      (let own = of x.0 x.1 tree is in (own.0, own.1, own.2, forest-of_bytes d of xs after rest))))

  shape-of_bytes : (d at : ℕ) (k : Kind) (s : Shape) (b : List ℕ) (tree : Tree) → AllOfBytes d → AreBytes b
      → tree_of n k at b (all_trees (tree_at n t layers d) (links_of layers s at b)) s ≡ Some tree
      → OfBytes (with_tree tree Bare)
  shape-of_bytes d at k s b tree of are is = elim (cases_Bool test) [
    | inl yes_it ↦
        map-some make (all_trees (tree_at n t layers d) (links_of layers s at b)) tree
        (sym (ap (λ c.
        cond c (option_map make (all_trees (tree_at n t layers d) (links_of layers s at b))) None) yes_it)
        ∙ is)
        (λ below under same. subst (λ (x : Tree). OfBytes (with_tree x Bare)) same (
          below-get 256 0 b (omega arith) are,
          rest-bytes s b are,
          forest-of_bytes d of (links_of layers s at b) below under,
          tt,
        ))
    | inr no_it ↦
        absurd (none-some tree
        (sym (ap (λ c.
        cond c (option_map make (all_trees (tree_at n t layers d) (links_of layers s at b))) None) no_it)
        ∙ is))
  ]
    where
      test : Bool
      test = not (eqb at 0) && leb (shape_size s) (length b) && names_glyph n k (get_or b 0 0) (rest_of s b)

      make : Forest → Tree
      make = λ trees. record { shape = s; first = get_or b 0 0; rest = rest_of s b; below = trees }

  pub tree-of_bytes : (d : ℕ) → AllOfBytes d
  tree-of_bytes zero at k tree e = absurd (none-some tree e)
  tree-of_bytes (suc d) at k tree e =
      let b = drop at t in
      option_and_then_some (λ s. tree_of n k at b (all_trees (tree_at n t layers d) (links_of layers s at b)) s)
      (shape_of k b) tree e
      (λ s is more. shape-of_bytes d at k s b tree (tree-of_bytes d) (below-drop 256 at t bytes) more)

-- sizes
some-bytes : (s : Shape) → 0 < shape_size s
some-bytes (Plain more) = omega arith
some-bytes (One more k) = omega arith
some-bytes (Two more k l) = omega arith
some-bytes Layers = omega arith

own-few : (s : Shape) (below : Forest) → own_count s below ≤ forest_count below
own-few (Plain more) below = omega arith
own-few (One more k) below = omega arith
own-few (Two more k l) below = omega arith
own-few Layers below = omega arith

layers-few : (f : Forest) → forest_layers f + forest_count f ≤ forest_size f
layers-few Bare = omega arith
layers-few (With s first rest below after) =
    omega (arith, some-bytes s, own-few s below, layers-few below, layers-few after)

pub layers-least : (f : Forest) → forest_layers f ≤ forest_size f
layers-least f = omega (arith, layers-few f)

first-least : (f : Forest) → first_size f ≤ forest_size f
first-least Bare = omega arith
first-least (With s first rest below after) = omega arith

-- what is written
shape-bytes : (s : Shape) (first : ℕ) (rest : List ℕ) (size index : ℕ) → first < 256 → AreBytes rest
    → shape_size s + size < 16777216 → index < 4294967296 → AreBytes (shape_bytes s first rest size index)
shape-bytes (Plain more) first rest size index f r h i = (f, r)
shape-bytes (One more k) first rest size index f r h i =
    (f, below-append 256 (bytes_of_u24 (4 + more)) rest (u24-bytes (4 + more) (omega (arith, h))) r)
shape-bytes (Two more k l) first rest size index f r h i =
    let one = bytes_of_u24 (7 + more) in
    let two = bytes_of_u24 (7 + more + size) in (
      f,
      below-append 256 (one ++ rest) two
          (below-append 256 one rest (u24-bytes (7 + more) (omega (arith, h))) r) (u24-bytes (7 + more + size) h),
    )
shape-bytes Layers first rest size index f r h i =
    (f, below-append 256 rest (bytes_of_u32 index) r (u32-bytes index i))

pub forest-bytes : (f : Forest) (index : ℕ) → OfBytes f → forest_size f < 16777216
    → index + forest_layers f < 4294967296 → AreBytes (forest_bytes index f)
forest-bytes Bare index of small low = tt
forest-bytes (With s first rest below after) index of small low =
    let own = shape_bytes s first rest (first_size below) index in
    let under = forest_bytes (index + own_count s below) below in
    let behind = forest_bytes (index + own_count s below + forest_layers below) after in
    below-append 256 own (under ++ behind)
    (shape-bytes s first rest (first_size below) index of.0 of.1 (omega (arith, small, first-least below))
    (omega (arith, low)))
    (below-append 256 under behind
    (forest-bytes below (index + own_count s below) of.2 (omega (arith, small)) (omega (arith, low)))
    (forest-bytes after (index + own_count s below + forest_layers below) of.3 (omega (arith, small))
    (omega (arith, low))))

-- places
starts-below : (at m : ℕ) (f : Forest) → at + forest_size f ≤ m → AreBelow m (starts at f)
starts-below at m Bare h = tt
starts-below at m (With s first rest below after) h =
    (omega (arith, h, some-bytes s), starts-below (at + (shape_size s + forest_size below)) m after (omega (arith, h)))

own-below : (s : Shape) (at m : ℕ) (f : Forest) → at + forest_size f ≤ m → AreBelow m (own_places s at f)
own-below (Plain more) at m f h = tt
own-below (One more k) at m f h = tt
own-below (Two more k l) at m f h = tt
own-below Layers at m f h = starts-below at m f h

pub places-below : (at m : ℕ) (f : Forest) → at + forest_size f ≤ m → AreBelow m (forest_places at f)
places-below at m Bare h = tt
places-below at m (With s first rest below after) h =
    let inside = at + shape_size s in
    let behind = at + (shape_size s + forest_size below) in
    below-append m (own_places s inside below) (forest_places inside below ++ forest_places behind after)
    (own-below s inside m below (omega (arith, h)))
    (below-append m (forest_places inside below) (forest_places behind after)
    (places-below inside m below (omega (arith, h))) (places-below behind m after (omega (arith, h))))

-- rows
pub place-bytes : (at m : ℕ) (ps : List ℕ) → m ≤ 4294967296 → AreBelow m ps → AreBytes (place_rows at ps)
place-bytes at m [] h are = tt
place-bytes at m (p ∷ ps) h are =
    below-append 256 (bytes_of_u32 (p - at)) (place_rows at ps) (u32-bytes (p - at) (omega (arith, h, are.0)))
    (place-bytes at m ps h are.1)

-- trees of listed glyphs
abbrev pub TreeOfBytes : Tree → Type 0
TreeOfBytes tree = OfBytes (with_tree tree Bare)

pub forest_of-bytes : (end : ℕ) (es : List (ℕ × Tree)) → AllSaid TreeOfBytes end es → OfBytes (forest_of es)
forest_of-bytes end [] are = tt
forest_of-bytes end (e ∷ es) are = (are.1.0, are.1.1, are.1.2, forest_of-bytes end es are.2)

pub forest_of-size : (es : List (ℕ × Tree)) → forest_size (forest_of es) ≡ sum_said tree_size es
forest_of-size [] = refl
forest_of-size (e ∷ es) = omega (arith, forest_of-size es)

pub root-bytes : (at p end : ℕ) (es : List (ℕ × Tree)) → AllSaid TreeOfBytes end es → end ≤ 65536
    → p + sum_said tree_size es < 4294967296 → AreBytes (root_rows at (rooted p es))
root-bytes at p end [] are h low = tt
root-bytes at p end (e ∷ es) are h low =
    let glyph = bytes_of_u16 e.0 in
    let offset = bytes_of_u32 (p - at) in
    below-append 256 (glyph ++ offset) (root_rows at (rooted (p + tree_size e.1) es))
    (below-append 256 glyph offset (u16-bytes e.0 (omega (arith, h, are.0))) (u32-bytes (p - at) (omega (arith, low))))
    (root-bytes at (p + tree_size e.1) end es are.2 h (omega (arith, low)))

pub clip-bytes : (at p end : ℕ) (es : List (ℕ × Tree)) → AllSaid TreeOfBytes end es → end ≤ 65536
    → p + sum_said tree_size es < at + 16777216 → AreBytes (clip_rows at (rooted p es))
clip-bytes at p end [] are h low = tt
clip-bytes at p end (e ∷ es) are h low =
    let glyph = bytes_of_u16 e.0 in
    let offset = bytes_of_u24 (p - at) in
    let own = u16-bytes e.0 (omega (arith, h, are.0)) in
    below-append 256 (glyph ++ glyph ++ offset) (clip_rows at (rooted (p + tree_size e.1) es))
    (below-append 256 (glyph ++ glyph) offset (below-append 256 glyph glyph own own)
    (u24-bytes (p - at) (omega (arith, low))))
    (clip-bytes at (p + tree_size e.1) end es are.2 h (omega (arith, low)))
