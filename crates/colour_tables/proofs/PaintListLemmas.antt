-- Records of paints, layers and clips that are written are read back.
use Rattle.std.proofs.Common.{◌≡◌, ℕ, suc, ◌+◌, ◌-◌, ◌*◌, ◌<◌, cond, eqb, leb}
use Rattle.std.proofs.Common.{◌&&◌, List, [], ◌∷◌, ◌++◌, length, map, replicate}
use Rattle.std.proofs.Common.{Some, refl, ap, ◌∙◌, arith, inl, inr}
use Rattle.std.specs.Option.{option_and_then}
use Rattle.std.proofs.lemmas.Bool.{cases_Bool, cond-false, ne_eqb}
use Rattle.std.proofs.lemmas.Bool.Decides.{nat_tests}
use Rattle.sfnt_bytes.specs.Number.{u16_at, u32_at}
use Rattle.colour_tables.specs.ListedGlyphs.{said_of}
use Rattle.colour_tables.specs.MadePaints.{base_list, clip_list, clip_rows, forest_of}
use Rattle.colour_tables.specs.MadePaints.{forest_places, layer_list, list_size, own_places, place_rows, root_rows}
use Rattle.colour_tables.specs.MadePaints.{rooted, starts}
use Rattle.colour_tables.specs.PaintLists.{Clip, clip_place, clips_in, forest_size}
use Rattle.colour_tables.specs.PaintLists.{places_in, roots_in, tree_size}
use Rattle.colour_tables.specs.Paints.{Bare, Forest, Tree, With, place_from, shape_size, tree_at, u24_at}
use Rattle.colour_tables.specs.declared.shape.Kind.{Kind}
use Rattle.colour_tables.specs.declared.shape.Shape.{Shape}
use Rattle.colour_tables.specs.declared.shape.Shape.TheVariants.{Layers, One, Plain, Two}
use Rattle.colour_tables.proofs.ForestLemmas.{Reads}
use Rattle.colour_tables.proofs.LayerLemmas.{word}
use Rattle.colour_tables.proofs.LayerReadLemmas.{long}
use Rattle.colour_tables.proofs.ShapeLemmas.{place-some, triple}

-- places after another
abbrev pub Above : ℕ → List ℕ → Type 0
Above at [] = Unit {0}
Above at (p ∷ ps) = (at < p) × Above at ps

abbrev pub RootsAbove : ℕ → List (ℕ × ℕ) → Type 0
RootsAbove at [] = Unit {0}
RootsAbove at (r ∷ rs) = (at < r.1) × RootsAbove at rs

above-append : (at : ℕ) (ps qs : List ℕ) → Above at ps → Above at qs → Above at (ps ++ qs)
above-append at [] qs a b = b
above-append at (p ∷ ps) qs a b = (a.0, above-append at ps qs a.1 b)

above-starts : (at p : ℕ) (f : Forest) → at < p → Above at (starts p f)
above-starts at p Bare h = tt
above-starts at p (With s first rest below after) h =
    (h, above-starts at (p + (shape_size s + forest_size below)) after (omega (arith, h)))

above-own : (at p : ℕ) (s : Shape) (f : Forest) → at < p → Above at (own_places s p f)
above-own at p (Plain more) f h = tt
above-own at p (One more k) f h = tt
above-own at p (Two more k l) f h = tt
above-own at p Layers f h = above-starts at p f h

pub above-places : (at p : ℕ) (f : Forest) → at < p → Above at (forest_places p f)
above-places at p Bare h = tt
above-places at p (With s first rest below after) h =
    let inside = p + shape_size s in
    let behind = p + (shape_size s + forest_size below) in
    above-append at (own_places s inside below) (forest_places inside below ++ forest_places behind after)
    (above-own at inside s below (omega (arith, h)))
    (above-append at (forest_places inside below) (forest_places behind after)
    (above-places at inside below (omega (arith, h))) (above-places at behind after (omega (arith, h))))

pub above-rooted : (at p : ℕ) (es : List (ℕ × Tree)) → at < p → RootsAbove at (rooted p es)
above-rooted at p [] h = tt
above-rooted at p (e ∷ es) h = (h, above-rooted at (p + tree_size e.1) es (omega (arith, h)))

pub rooted-long : (p : ℕ) (es : List (ℕ × Tree)) → length (rooted p es) ≡ length es
rooted-long p [] = refl
rooted-long p (e ∷ es) = ap suc (rooted-long (p + tree_size e.1) es)

-- an offset that is written leads to its place
place-again : (at p : ℕ) → at < p → place_from at (p - at) ≡ p
place-again at p h =
    let sum : at + (p - at) ≡ p = omega (arith, h) in place-some at (p - at) (omega (arith, h)) ∙ sum

-- records
pub roots_read : (at : ℕ) (rs : List (ℕ × ℕ)) (z : List ℕ) → RootsAbove at rs
    → roots_in at (length rs) (root_rows at rs ++ z) ≡ rs
unfolding u16_at u32_at
roots_read at [] z h = refl
roots_read at (r ∷ rs) z h =
    let place = ap (place_from at) (long (r.1 - at)) ∙ place-again at r.1 h.0 in
    λ i. (word r.0 i, place i) ∷ roots_read at rs z h.1 i

pub places_read : (at : ℕ) (ps z : List ℕ) → Above at ps → places_in at (length ps) (place_rows at ps ++ z) ≡ ps
unfolding u32_at
places_read at [] z h = refl
places_read at (p ∷ ps) z h =
    let place = ap (place_from at) (long (p - at)) ∙ place-again at p h.0 in
    λ i. place i ∷ places_read at ps z h.1 i

-- a clip of a glyph alone
abbrev pub clip_of : ℕ × ℕ → Clip
clip_of r = record { first = r.0; last = r.0; place = r.1 }

pub clips_read : (at : ℕ) (rs : List (ℕ × ℕ)) (z : List ℕ) → RootsAbove at rs
    → clips_in at (length rs) (clip_rows at rs ++ z) ≡ map clip_of rs
unfolding u16_at u24_at
clips_read at [] z h = refl
clips_read at (r ∷ rs) z h =
    let place = ap (place_from at) (triple (r.1 - at)) ∙ place-again at r.1 h.0 in
    λ i. record { first = word r.0 i; last = word r.0 i; place = place i } ∷ clips_read at rs z h.1 i

both-le : (a b : ℕ) → (leb a b && leb b a) ≡ eqb a b
both-le a b = grind (arith, nat_tests)

pub clip_said : (g : ℕ) (rs : List (ℕ × ℕ)) → clip_place g (map clip_of rs) ≡ said_of g rs
clip_said g [] = refl
clip_said g (r ∷ rs) =
    let test = both-le r.0 g in let rest = clip_said g rs in λ i. cond (test i) (Some r.1) (rest i)

-- sizes
pub root-size : (at : ℕ) (rs : List (ℕ × ℕ)) → length (root_rows at rs) ≡ 6 * length rs
root-size at [] = refl
root-size at (r ∷ rs) = omega (arith, root-size at rs)

pub place-size : (at : ℕ) (ps : List ℕ) → length (place_rows at ps) ≡ 4 * length ps
place-size at [] = refl
place-size at (p ∷ ps) = omega (arith, place-size at ps)

pub clip-size : (at : ℕ) (rs : List (ℕ × ℕ)) → length (clip_rows at rs) ≡ 7 * length rs
clip-size at [] = refl
clip-size at (r ∷ rs) = omega (arith, clip-size at rs)

pub some-size : (before size count : ℕ) → 0 < count → list_size before size count ≡ before + 4 + size * count
some-size before size count some = cond-false (eqb count 0) _ _ (ne_eqb count 0 (λ e. omega (arith, e, some)))

pub base-size : (at : ℕ) (rs : List (ℕ × ℕ)) → length (base_list at rs) ≡ list_size 0 6 (length rs)
base-size at [] = refl
base-size at (r ∷ rs) =
    omega (arith, root-size at rs, some-size 0 6 (suc (length rs)) (omega arith))

pub layer-list-size : (at : ℕ) (ps : List ℕ) → length (layer_list at ps) ≡ list_size 0 4 (length ps)
layer-list-size at [] = refl
layer-list-size at (p ∷ ps) =
    omega (arith, place-size at ps, some-size 0 4 (suc (length ps)) (omega arith))

pub clip-list-size : (at : ℕ) (rs : List (ℕ × ℕ)) → length (clip_list at rs) ≡ list_size 1 7 (length rs)
clip-list-size at [] = refl
clip-list-size at (r ∷ rs) =
    omega (arith, clip-size at rs, some-size 1 7 (suc (length rs)) (omega arith))

-- the trees of glyphs are what is said of them, where each is read at its place
module _ (n : ℕ) (t layers : List ℕ) where
  pub tree-said : (d at g : ℕ) (k : Kind) (es : List (ℕ × Tree))
      → Reads n t layers d at (replicate (length es) k) (forest_of es)
      → option_and_then (λ p. tree_at n t layers d p k) (said_of g (rooted at es)) ≡ said_of g es
  tree-said d at g k [] reads = refl
  tree-said d at g k (e ∷ es) reads = elim (cases_Bool (eqb e.0 g)) [
    | inl yes_it ↦ rw yes_it reads.0
    | inr no_it ↦ rw no_it (tree-said d (at + tree_size e.1) g k es reads.1)
  ]
