-- The trees of glyphs, one glyph at a time.
use Rattle.std.proofs.Common.{◌≡◌, ℕ, zero, suc, ◌+◌, ◌-◌, ◌<◌, ◌≤◌, List, [], ◌∷◌, ◌++◌, Option, None, Some, refl, sym}
use Rattle.std.proofs.Common.{ap, ◌∙◌}
use Rattle.std.proofs.Common.{arith, append_assoc, length}
use Rattle.std.proofs.lemmas.List.{append-nil}
use Rattle.colour_tables.specs.ListedGlyphs.{listed, with_glyph}
use Rattle.colour_tables.specs.MadeLayers.{bytes_of_u16, bytes_of_u24, bytes_of_u32}
use Rattle.colour_tables.specs.MadePaints.{base_list, clip_list, clip_rows, forest_bytes, forest_layers, forest_of}
use Rattle.colour_tables.specs.MadePaints.{forest_places, layer_list, place_rows, root_rows, rooted}
use Rattle.colour_tables.specs.PaintLists.{forest_size, tree_size}
use Rattle.colour_tables.specs.Paints.{Forest, Tree, with_tree}
use Rattle.colour_tables.proofs.ForestLemmas.{places-long}
use Rattle.colour_tables.proofs.PaintListLemmas.{rooted-long}
use Rattle.colour_writers.specs.Inside.{bytes_here, clip_bytes, layers_here, places_here, root_bytes, size_here}
use Rattle.colour_writers.proofs.ListLemmas.{list_step}
use Rattle.colour_writers.proofs.WrittenLemmas.{places_put, tree_put}

abbrev Trees : Type 0
Trees = List (ℕ × Tree)

-- sizes
size_with : (g : ℕ) (o : Option Tree) (rest : Trees)
    → forest_size (forest_of (with_glyph g o rest)) ≡ size_here o + forest_size (forest_of rest)
size_with g None rest = omega arith
size_with g (Some tree) rest = refl

layers_with : (g : ℕ) (o : Option Tree) (rest : Trees)
    → forest_layers (forest_of (with_glyph g o rest)) ≡ layers_here o + forest_layers (forest_of rest)
layers_with g None rest = omega arith
layers_with g (Some tree) rest = refl

pub size_step : (x : ℕ → Option Tree) (g n : ℕ) (o : Option Tree) → g < n → o ≡ x g
    → size_here o + forest_size (forest_of (listed x (g + 1) (n - (g + 1))))
    ≡ forest_size (forest_of (listed x g (n - g)))
size_step x g n o h e =
    sym (size_with g o (listed x (g + 1) (n - (g + 1))))
    ∙ list_step (λ es. forest_size (forest_of es)) x g n o (forest_size (forest_of (listed x g (n - g)))) h e refl

pub layers_step : (x : ℕ → Option Tree) (g n : ℕ) (o : Option Tree) → g < n → o ≡ x g
    → layers_here o + forest_layers (forest_of (listed x (g + 1) (n - (g + 1))))
    ≡ forest_layers (forest_of (listed x g (n - g)))
layers_step x g n o h e =
    sym (layers_with g o (listed x (g + 1) (n - (g + 1))))
    ∙ list_step (λ es. forest_layers (forest_of es)) x g n o (forest_layers (forest_of (listed x g (n - g)))) h e refl

pub left_less : (x : ℕ → Option Tree) (g n : ℕ) → g < n
    → forest_size (forest_of (listed x g (n - g))) ≤ forest_size (forest_of (listed x 0 n))
left_less x zero n h =
    let all : n - 0 ≡ n = omega arith in
    omega (arith, ap (λ (m : ℕ). forest_size (forest_of (listed x 0 m))) all)
left_less x (suc g) n h =
    let next : g + 1 ≡ suc g = omega arith in
    omega (
      arith,
      left_less x g n (omega (arith, h)),
      size_step x g n (x g) (omega (arith, h)) refl,
      ap (λ (m : ℕ). forest_size (forest_of (listed x m (n - m)))) next,
    )

-- records
pub root_put : (old new : List ℕ) (list g at next : ℕ) (o : Option Tree) (rest : Trees)
    → new ≡ old ++ root_bytes list g at o → next ≡ at + size_here o
    → new ++ root_rows list (rooted next rest) ≡ old ++ root_rows list (rooted at (with_glyph g o rest))
root_put old new list g at next None rest put n =
    let same : next ≡ at = omega (arith, n) in
    let kept = put ∙ append-nil old in λ i. kept i ++ root_rows list (rooted (same i) rest)
root_put old new list g at next (Some tree) rest put n =
    (λ i. put i ++ root_rows list (rooted (n i) rest))
    ∙ append_assoc old (bytes_of_u16 g ++ bytes_of_u32 (at - list)) (root_rows list (rooted (at + tree_size tree) rest))

pub clip_put : (old new : List ℕ) (list g at next : ℕ) (o : Option Tree) (rest : Trees)
    → new ≡ old ++ clip_bytes list g at o → next ≡ at + size_here o
    → new ++ clip_rows list (rooted next rest) ≡ old ++ clip_rows list (rooted at (with_glyph g o rest))
clip_put old new list g at next None rest put n =
    let same : next ≡ at = omega (arith, n) in
    let kept = put ∙ append-nil old in λ i. kept i ++ clip_rows list (rooted (same i) rest)
clip_put old new list g at next (Some tree) rest put n =
    (λ i. put i ++ clip_rows list (rooted (n i) rest))
    ∙ append_assoc old (bytes_of_u16 g ++ bytes_of_u16 g ++ bytes_of_u24 (at - list))
    (clip_rows list (rooted (at + tree_size tree) rest))

pub places_of_put : (old new : List ℕ) (list g at next : ℕ) (o : Option Tree) (rest : Trees)
    → new ≡ old ++ place_rows list (places_here at o) → next ≡ at + size_here o
    → new ++ place_rows list (forest_places next (forest_of rest))
    ≡ old ++ place_rows list (forest_places at (forest_of (with_glyph g o rest)))
places_of_put old new list g at next None rest put n =
    let same : next ≡ at = omega (arith, n) in
    let kept = put ∙ append-nil old in λ i. kept i ++ place_rows list (forest_places (same i) (forest_of rest))
places_of_put old new list g at next (Some tree) rest put n =
    places_put old new (old ++ place_rows list (forest_places at (with_tree tree (forest_of rest)))) list at next tree
    (with_tree tree (forest_of rest)) (forest_of rest) refl put n refl

pub tree_of_put : (old new : List ℕ) (g index next : ℕ) (o : Option Tree) (rest : Trees)
    → new ≡ old ++ bytes_here index o → next ≡ index + layers_here o
    → new ++ forest_bytes next (forest_of rest) ≡ old ++ forest_bytes index (forest_of (with_glyph g o rest))
tree_of_put old new g index next None rest put n =
    let same : next ≡ index = omega (arith, n) in
    let kept = put ∙ append-nil old in λ i. kept i ++ forest_bytes (same i) (forest_of rest)
tree_of_put old new g index next (Some tree) rest put n =
    tree_put old new (old ++ forest_bytes index (with_tree tree (forest_of rest))) index next tree
    (with_tree tree (forest_of rest)) (forest_of rest) refl put n refl

-- lists with their counts
base_of : (list : ℕ) (rs : List (ℕ × ℕ)) → 0 < length rs
    → base_list list rs ≡ bytes_of_u32 (length rs) ++ root_rows list rs
base_of list [] h = absurd (omega (arith, h))
base_of list (r ∷ rs) h = refl

no_base : (list : ℕ) (rs : List (ℕ × ℕ)) → length rs ≡ 0 → base_list list rs ≡ []
no_base list [] e = refl
no_base list (r ∷ rs) e = absurd (omega (arith, e))

layer_list_of : (list : ℕ) (ps : List ℕ) → 0 < length ps
    → layer_list list ps ≡ bytes_of_u32 (length ps) ++ place_rows list ps
layer_list_of list [] h = absurd (omega (arith, h))
layer_list_of list (p ∷ ps) h = refl

no_layer_list : (list : ℕ) (ps : List ℕ) → length ps ≡ 0 → layer_list list ps ≡ []
no_layer_list list [] e = refl
no_layer_list list (p ∷ ps) e = absurd (omega (arith, e))

clip_list_of : (list : ℕ) (rs : List (ℕ × ℕ)) → 0 < length rs
    → clip_list list rs ≡ 1 ∷ bytes_of_u32 (length rs) ++ clip_rows list rs
clip_list_of list [] h = absurd (omega (arith, h))
clip_list_of list (r ∷ rs) h = refl

no_clip_list : (list : ℕ) (rs : List (ℕ × ℕ)) → length rs ≡ 0 → clip_list list rs ≡ []
no_clip_list list [] e = refl
no_clip_list list (r ∷ rs) e = absurd (omega (arith, e))

nothing_put : (old bytes : List ℕ) → bytes ≡ [] → old ≡ old ++ bytes
nothing_put old bytes e = sym (ap (λ (b : List ℕ). old ++ b) e ∙ append-nil old)

-- what is put in two steps
pub both_put : (old one two a b : List ℕ) → one ≡ old ++ a → two ≡ one ++ b → two ≡ old ++ (a ++ b)
both_put old one two a b e h = h ∙ ap (λ (c : List ℕ). c ++ b) e ∙ append_assoc old a b

pub base_none : (old : List ℕ) (list at count : ℕ) (es : Trees) → count ≡ length es → count ≡ 0
    → old ≡ old ++ base_list list (rooted at es)
base_none old list at count es e z =
    nothing_put old (base_list list (rooted at es))
    (no_base list (rooted at es) (omega (arith, rooted-long at es, e, z)))

pub base_some : (old one two : List ℕ) (list at count : ℕ) (es : Trees) → count ≡ length es → 0 < count
    → one ≡ old ++ bytes_of_u32 count → two ≡ one ++ root_rows list (rooted at es)
    → two ≡ old ++ base_list list (rooted at es)
base_some old one two list at count es e h put rows =
    let same : count ≡ length (rooted at es) = omega (arith, rooted-long at es, e) in
    both_put old one two (bytes_of_u32 count) (root_rows list (rooted at es)) put rows
    ∙ ap (λ (m : ℕ). old ++ (bytes_of_u32 m ++ root_rows list (rooted at es))) same
    ∙ ap (λ (b : List ℕ). old ++ b) (sym (base_of list (rooted at es) (omega (arith, same, h))))

pub layer_list_none : (old : List ℕ) (list at count : ℕ) (f : Forest) → count ≡ forest_layers f → count ≡ 0
    → old ≡ old ++ layer_list list (forest_places at f)
layer_list_none old list at count f e z =
    nothing_put old (layer_list list (forest_places at f))
    (no_layer_list list (forest_places at f) (omega (arith, places-long at f, e, z)))

pub layer_list_some : (old one two : List ℕ) (list at count : ℕ) (f : Forest) → count ≡ forest_layers f → 0 < count
    → one ≡ old ++ bytes_of_u32 count → two ≡ one ++ place_rows list (forest_places at f)
    → two ≡ old ++ layer_list list (forest_places at f)
layer_list_some old one two list at count f e h put rows =
    let same : count ≡ length (forest_places at f) = omega (arith, places-long at f, e) in
    both_put old one two (bytes_of_u32 count) (place_rows list (forest_places at f)) put rows
    ∙ ap (λ (m : ℕ). old ++ (bytes_of_u32 m ++ place_rows list (forest_places at f))) same
    ∙ ap (λ (b : List ℕ). old ++ b) (sym (layer_list_of list (forest_places at f) (omega (arith, same, h))))

pub clips_none : (old : List ℕ) (list at count : ℕ) (es : Trees) → count ≡ length es → count ≡ 0
    → old ≡ old ++ clip_list list (rooted at es)
clips_none old list at count es e z =
    nothing_put old (clip_list list (rooted at es))
    (no_clip_list list (rooted at es) (omega (arith, rooted-long at es, e, z)))

pub clips_some : (old first one two : List ℕ) (list at count : ℕ) (es : Trees) → count ≡ length es → 0 < count
    → first ≡ old ++ 1 ∷ [] → one ≡ first ++ bytes_of_u32 count → two ≡ one ++ clip_rows list (rooted at es)
    → two ≡ old ++ clip_list list (rooted at es)
clips_some old first one two list at count es e h begin put rows =
    let same : count ≡ length (rooted at es) = omega (arith, rooted-long at es, e) in
    both_put old first two (1 ∷ []) (bytes_of_u32 count ++ clip_rows list (rooted at es)) begin
    (both_put first one two (bytes_of_u32 count) (clip_rows list (rooted at es)) put rows)
    ∙ ap (λ (m : ℕ). old ++ (1 ∷ (bytes_of_u32 m ++ clip_rows list (rooted at es)))) same
    ∙ ap (λ (b : List ℕ). old ++ b) (sym (clip_list_of list (rooted at es) (omega (arith, same, h))))
