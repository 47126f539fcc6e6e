-- Trees that are written are read back.
use Rattle.std.proofs.Common.{◌≡◌, ℕ, zero, suc, ◌+◌, ◌/◌, ◌%◌, ◌<◌, true, eqb, leb}
use Rattle.std.proofs.Common.{not, ◌&&◌, List, [], ◌∷◌, ◌++◌, length, get_or, drop, replicate, Option, Some}
use Rattle.std.proofs.Common.{refl, ap, sym, subst, ◌∙◌, arith, append_assoc, length-append}
use Rattle.std.specs.Option.{option_and_then, option_map}
use Rattle.std.proofs.lemmas.List.{drop-drop, length-replicate}
use Rattle.std.proofs.Math.Seq.{drop-append_seam}
use Rattle.std.proofs.lemmas.Bool.{and_from, cond-true, le-leb, ne_eqb}
use Rattle.sfnt_bytes.specs.Number.{u32_at}
use Rattle.colour_tables.specs.MadePaints.{first_size, forest_bytes, forest_count, forest_layers, forest_places}
use Rattle.colour_tables.specs.MadePaints.{own_count, own_places, shape_bytes, starts}
use Rattle.colour_tables.specs.PaintLists.{forest_size}
use Rattle.colour_tables.specs.Paints.{Bare, Forest, Tree, With, all_trees, layer_links, links_of, names_glyph}
use Rattle.colour_tables.specs.Paints.{place_from, rest_of, shape_of, shape_size, tree_at, tree_of, u24_at, with_tree}
use Rattle.colour_tables.specs.Paints.{kinds_below}
use Rattle.colour_tables.specs.declared.shape.Kind.{Kind}
use Rattle.colour_tables.specs.declared.shape.Kind.TheVariants.{Paint}
use Rattle.colour_tables.specs.declared.shape.Shape.{Shape}
use Rattle.colour_tables.specs.declared.shape.Shape.TheVariants.{Layers, One, Plain, Two}
use Rattle.colour_tables.proofs.LayerReadLemmas.{long}
use Rattle.colour_tables.proofs.ShapeLemmas.{first-is, first_offset, layers-placed, place-some, placed}
use Rattle.colour_tables.proofs.ShapeLemmas.{rest-is, rest_count, second_offset, shape-long}

-- what is known of a shape that is read as a kind
pub record IsTable (n : ℕ) (k : Kind) (s : Shape) (first : ℕ) (rest : List ℕ) : Type 0 where
  pub shape : (size index : ℕ) (z : List ℕ) → shape_of k (shape_bytes s first rest size index ++ z) ≡ Some s
  pub size : length rest ≡ rest_count s
  pub named : names_glyph n k first rest ≡ true

-- trees are of kinds, and nested so deep at most
abbrev pub Formed : ℕ → ℕ → List Kind → Forest → Type 0
Formed n d ks Bare = ks ≡ []
Formed n d [] (With s first rest below after) = ⊥
Formed n zero (k ∷ ks) (With s first rest below after) = ⊥
Formed n (suc d) (k ∷ ks) (With s first rest below after) =
    IsTable n k s first rest × Formed n d (kinds_below s rest) below × Formed n (suc d) ks after

-- sizes
pub bytes-long : (n d : ℕ) (ks : List Kind) (f : Forest) (index : ℕ) → Formed n d ks f
    → length (forest_bytes index f) ≡ forest_size f
bytes-long n d ks Bare index e = refl
bytes-long n d [] (With s first rest below after) index e = absurd e
bytes-long n zero (k ∷ ks) (With s first rest below after) index e = absurd e
bytes-long n (suc d) (k ∷ ks) (With s first rest below after) index e =
    let own = shape_bytes s first rest (first_size below) index in
    let under = forest_bytes (index + own_count s below) below in
    let behind = forest_bytes (index + own_count s below + forest_layers below) after in
    omega (
      arith,
      length-append own (under ++ behind),
      length-append under behind,
      shape-long s first rest (first_size below) index e.0.size,
      bytes-long n d (kinds_below s rest) below (index + own_count s below) e.1,
      bytes-long n (suc d) ks after (index + own_count s below + forest_layers below) e.2,
    )

pub starts-long : (at : ℕ) (f : Forest) → length (starts at f) ≡ forest_count f
starts-long at Bare = refl
starts-long at (With s first rest below after) =
    ap suc (starts-long (at + (shape_size s + forest_size below)) after)

own-long : (s : Shape) (at : ℕ) (below : Forest) → length (own_places s at below) ≡ own_count s below
own-long (Plain more) at below = refl
own-long (One more k) at below = refl
own-long (Two more k l) at below = refl
own-long Layers at below = starts-long at below

pub places-long : (at : ℕ) (f : Forest) → length (forest_places at f) ≡ forest_layers f
places-long at Bare = refl
places-long at (With s first rest below after) =
    let own = own_places s (at + shape_size s) below in
    let under = forest_places (at + shape_size s) below in
    let behind = forest_places (at + (shape_size s + forest_size below)) after in
    omega (
      arith,
      length-append own (under ++ behind),
      length-append under behind,
      own-long s (at + shape_size s) below,
      places-long (at + shape_size s) below,
      places-long (at + (shape_size s + forest_size below)) after,
    )

pub count-formed : (n d : ℕ) (ks : List Kind) (f : Forest) → Formed n d ks f → forest_count f ≡ length ks
count-formed n d ks Bare e = sym (ap length e)
count-formed n d [] (With s first rest below after) e = absurd e
count-formed n zero (k ∷ ks) (With s first rest below after) e = absurd e
count-formed n (suc d) (k ∷ ks) (With s first rest below after) e = ap suc (count-formed n (suc d) ks after e.2)

-- what stands after something
pub next : {X : Type 0} (t xs ys : List X) (at n : ℕ) → drop at t ≡ xs ++ ys → length xs ≡ n → drop (at + n) t ≡ ys
next t xs ys at n e l =
    sym (drop-drop n at t) ∙ ap (drop n) e ∙ ap (λ (k : ℕ). drop k (xs ++ ys)) (sym l) ∙ drop-append_seam xs ys

add_assoc-sym : (a b c : ℕ) → a + (b + c) ≡ a + b + c
add_assoc-sym a b c = omega arith

-- the links of a shape that is written lead to what is below it
one-links : (n d at more size : ℕ) (k : Kind) (first : ℕ) (rest z : List ℕ) (below : Forest)
    → Formed n d (k ∷ []) below
    → (place_from at (u24_at (shape_bytes (One more k) first rest size 0 ++ z) 1), k) ∷ []
    ≡ placed (starts (at + (4 + more)) below) (k ∷ [])
one-links n d at more size k first rest z Bare e = absurd (omega (arith, ap length e))
one-links n d at more size k first rest z (With s f r b a) e =
    let offset = first_offset first (4 + more) (rest ++ z) in
    let place = ap (place_from at) offset ∙ place-some at (4 + more) (omega arith) in
    λ i. (place i, k) ∷ []

two-links : (n d at more : ℕ) (k l : Kind) (first : ℕ) (rest z : List ℕ) (below : Forest)
    → Formed n d (k ∷ l ∷ []) below → length rest ≡ more
    → links_of [] (Two more k l) at (shape_bytes (Two more k l) first rest (first_size below) 0 ++ z)
    ≡ placed (starts (at + (7 + more)) below) (k ∷ l ∷ [])
two-links n d at more k l first rest z Bare e h = absurd (omega (arith, ap length e))
two-links n zero at more k l first rest z (With s f r b a) e h = absurd e
two-links n (suc d) at more k l first rest z (With s f r b Bare) e h = absurd (omega (arith, ap length e.2))
two-links n (suc d) at more k l first rest z (With s f r b (With t g q c a)) e h =
    let size = shape_size s + forest_size b in
    let one : List ℕ = (7 + more) / 65536 ∷ (7 + more) / 256 % 256 ∷ (7 + more) % 256 ∷ [] in
    let two : List ℕ = (7 + more + size) / 65536 ∷ (7 + more + size) / 256 % 256 ∷ (7 + more + size) % 256 ∷ [] in
    let near =
    ap (place_from at) (first_offset first (7 + more) (rest ++ two ++ z)) ∙ place-some at (7 + more) (omega arith) in
    let far =
    ap (place_from at)
    (second_offset first (get_or one 0 0) (get_or one 1 0) (get_or one 2 0) more (7 + more + size) rest z h)
    ∙ place-some at (7 + more + size) (omega arith) in
    let same : at + (7 + more + size) ≡ at + (7 + more) + size = omega arith in
    let last = far ∙ same in
    λ i. (near i, k) ∷ (last i, l) ∷ []

many-links : (n d at index : ℕ) (layers : List ℕ) (first : ℕ) (rest z y : List ℕ) (below : Forest)
    → Formed n d (replicate (get_or rest 0 0) Paint) below → length rest ≡ 1
    → drop index layers ≡ starts (at + 6) below ++ y
    → links_of layers Layers at (first ∷ rest ++ (index / 16777216 ∷ index / 65536 % 256 ∷ index / 256 % 256
    ∷ index % 256 ∷ []) ++ z)
    ≡ placed (starts (at + 6) below) (replicate (get_or rest 0 0) Paint)
unfolding u32_at
many-links n d at index layers first [] z y below e h there = absurd (omega (arith, h))
many-links n d at index layers first (c ∷ []) z y below e h there =
    let count : length (starts (at + 6) below) ≡ c =
    starts-long (at + 6) below ∙ count-formed n d (replicate c Paint) below e ∙ length-replicate c Paint in
    let is = long index in
    (λ i. layer_links layers (is i) c)
    ∙ subst (λ (m : ℕ). layer_links layers index m ≡ placed (starts (at + 6) below) (replicate m Paint)) count
    (layers-placed layers (starts (at + 6) below) y index there)
many-links n d at index layers first (c ∷ b ∷ rest) z y below e h there = absurd (omega (arith, h))

pub links-are : (n d at index : ℕ) (layers : List ℕ) (s : Shape) (first : ℕ) (rest z y : List ℕ) (below : Forest)
    → Formed n d (kinds_below s rest) below → length rest ≡ rest_count s
    → drop index layers ≡ own_places s (at + shape_size s) below ++ y
    → links_of layers s at (shape_bytes s first rest (first_size below) index ++ z)
    ≡ placed (starts (at + shape_size s) below) (kinds_below s rest)
links-are n d at index layers (Plain more) first rest z y below e h there = refl
links-are n d at index layers (One more k) first rest z y below e h there =
    one-links n d at more (first_size below) k first rest z below e
links-are n d at index layers (Two more k l) first rest z y below e h there =
    two-links n d at more k l first rest z below e h
links-are n d at index layers Layers first rest z y below e h there =
    many-links n d at index layers first rest z y below e h there

-- a tree whose bytes stand at a place, and what is below it where its links lead, is read
module _ (n : ℕ) (t layers : List ℕ) where
  abbrev read : ℕ → ℕ → Kind → Option Tree
  read d = tree_at n t layers d

  of-bytes : (at : ℕ) (k : Kind) (s : Shape) (first : ℕ) (rest z : List ℕ) (size index : ℕ) (below : Forest)
      → IsTable n k s first rest → 0 < at
      → tree_of n k at (shape_bytes s first rest size index ++ z) (Some below) s
      ≡ Some (record { shape = s; first = first; rest = rest; below = below })
  of-bytes at k s first rest z size index below is some =
      let b = shape_bytes s first rest size index ++ z in
      let same_first = first-is s first rest size index z in
      let same_rest = rest-is s first rest size index z is.size in
      let there : not (eqb at 0) ≡ true = ap not (ne_eqb at 0 (λ e. omega (arith, e, some))) in
      let room : leb (shape_size s) (length b) ≡ true =
      le-leb (shape_size s) (length b)
      (omega (
        arith,
        length-append (shape_bytes s first rest size index) z,
        shape-long s first rest size index is.size,
      )) in
      let names : names_glyph n k (get_or b 0 0) (rest_of s b) ≡ true =
      (λ i. names_glyph n k (same_first i) (same_rest i)) ∙ is.named in
      cond-true (not (eqb at 0) && leb (shape_size s) (length b) && names_glyph n k (get_or b 0 0) (rest_of s b)) _ _
      (and_from _ _ (and_from _ _ there room) names)
      ∙ (λ i. Some (record { shape = s; first = same_first i; rest = same_rest i; below = below }))

  tree-is : (d at : ℕ) (k : Kind) (s : Shape) (first : ℕ) (rest z : List ℕ) (size index : ℕ) (below : Forest)
      → IsTable n k s first rest → 0 < at → drop at t ≡ shape_bytes s first rest size index ++ z
      → all_trees (read d) (links_of layers s at (shape_bytes s first rest size index ++ z)) ≡ Some below
      → read (suc d) at k ≡ Some (record { shape = s; first = first; rest = rest; below = below })
  tree-is d at k s first rest z size index below is some there under =
      let b = shape_bytes s first rest size index ++ z in
      ap (λ (b : List ℕ). option_and_then (λ s. tree_of n k at b (all_trees (read d) (links_of layers s at b)) s)
      (shape_of k b)) there
      ∙ ap (λ (o : Option Shape).
      option_and_then (λ s. tree_of n k at b (all_trees (read d) (links_of layers s at b)) s)
      o) (is.shape size index z)
      ∙ ap (λ (o : Option Forest). tree_of n k at b o s) under
      ∙ of-bytes at k s first rest z size index below is some

  -- each of trees in a row is read at its place
  abbrev pub Reads : ℕ → ℕ → List Kind → Forest → Type 0
  Reads d at ks Bare = Unit {0}
  Reads d at [] (With s first rest below after) = ⊥
  Reads d at (k ∷ ks) (With s first rest below after) =
      (read d at k ≡ Some (record { shape = s; first = first; rest = rest; below = below }))
      × Reads d (at + (shape_size s + forest_size below)) ks after

  none-placed : (d : ℕ) (ks : List Kind) → all_trees (read d) (placed [] ks) ≡ Some Bare
  none-placed d [] = refl
  none-placed d (k ∷ ks) = refl

  all-read : (d at : ℕ) (ks : List Kind) (f : Forest) → Reads d at ks f
      → all_trees (read d) (placed (starts at f) ks) ≡ Some f
  all-read d at ks Bare e = none-placed d ks
  all-read d at [] (With s first rest below after) e = absurd e
  all-read d at (k ∷ ks) (With s first rest below after) e =
      let more = all-read d (at + (shape_size s + forest_size below)) ks after e.1 in
      λ i. option_and_then (λ tree. option_map (with_tree tree) (more i)) (e.0 i)

  -- trees that stand in a table from a place on, with their layers in the list of these from an index on, are read
  pub reads : (f : Forest) (d at index : ℕ) (ks : List Kind) (z y : List ℕ) → Formed n d ks f → 0 < at
      → drop at t ≡ forest_bytes index f ++ z → drop index layers ≡ forest_places at f ++ y → Reads d at ks f
  reads Bare d at index ks z y e some there listed = tt
  reads (With s first rest below after) d at index [] z y e some there listed = absurd e
  reads (With s first rest below after) zero at index (k ∷ ks) z y e some there listed = absurd e
  reads (With s first rest below after) (suc d) at index (k ∷ ks) z y e some there listed =
      let size = shape_size s in
      let own = shape_bytes s first rest (first_size below) index in
      let in_own = own_count s below in
      let under = forest_bytes (index + in_own) below in
      let behind = forest_bytes (index + in_own + forest_layers below) after in
      let own_list = own_places s (at + size) below in
      let under_list = forest_places (at + size) below in
      let behind_list = forest_places (at + (size + forest_size below)) after in
      let here : drop at t ≡ own ++ (under ++ (behind ++ z)) =
      there ∙ append_assoc own (under ++ behind) z ∙ ap (λ (b : List ℕ). own ++ b) (append_assoc under behind z) in
      let below_there : drop (at + size) t ≡ under ++ (behind ++ z) =
      next t own (under ++ (behind ++ z)) at size here (shape-long s first rest (first_size below) index e.0.size) in
      let behind_there : drop (at + (size + forest_size below)) t ≡ behind ++ z =
      ap (λ (k : ℕ). drop k t) (add_assoc-sym at size (forest_size below))
      ∙ next t under (behind ++ z) (at + size) (forest_size below) below_there
      (bytes-long n d (kinds_below s rest) below (index + in_own) e.1) in
      let here_list : drop index layers ≡ own_list ++ (under_list ++ (behind_list ++ y)) =
      listed ∙ append_assoc own_list (under_list ++ behind_list) y
      ∙ ap (λ (b : List ℕ). own_list ++ b) (append_assoc under_list behind_list y) in
      let below_list : drop (index + in_own) layers ≡ under_list ++ (behind_list ++ y) =
      next layers own_list (under_list ++ (behind_list ++ y)) index in_own here_list (own-long s (at + size) below) in
      let behind_listed : drop (index + in_own + forest_layers below) layers ≡ behind_list ++ y =
      next layers under_list (behind_list ++ y) (index + in_own) (forest_layers below) below_list
      (places-long (at + size) below) in
      let inner =
      reads below d (at + size) (index + in_own) (kinds_below s rest) (behind ++ z) (behind_list ++ y) e.1
      (omega (arith, some)) below_there below_list in
      let links =
      links-are n d at index layers s first rest (under ++ (behind ++ z)) (under_list ++ (behind_list ++ y)) below e.1
      e.0.size here_list in (
        tree-is d at k s first rest (under ++ (behind ++ z)) (first_size below) index below e.0 some here
            (ap (all_trees (read d)) links ∙ all-read d (at + size) (kinds_below s rest) below inner),
        reads after (suc d) (at + (size + forest_size below)) (index + in_own + forest_layers below) ks z y e.2
            (omega (arith, some)) behind_there behind_listed,
      )
