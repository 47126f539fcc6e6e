-- What is written of trees, one tree at a time.
use Rattle.std.proofs.Common.{◌≡◌, ℕ, ◌+◌, ◌-◌, ◌≤◌, List, [], ◌∷◌, ◌++◌, refl, sym, ap, ◌∙◌, arith, append_assoc}
use Rattle.std.proofs.lemmas.List.{append-nil}
use Rattle.colour_tables.specs.MadeLayers.{bytes_of_u32}
use Rattle.colour_tables.specs.MadePaints.{first_size, forest_bytes, forest_count, forest_layers, forest_places}
use Rattle.colour_tables.specs.MadePaints.{own_count}
use Rattle.colour_tables.specs.MadePaints.{own_places, place_rows, shape_bytes, starts}
use Rattle.colour_tables.specs.PaintLists.{forest_size, tree_size}
use Rattle.colour_tables.specs.Paints.{Bare, Forest, Tree, shape_size, with_tree}
use Rattle.colour_tables.proofs.TreeByteLemmas.{layers-least}
use Rattle.colour_readers.specs.Subtrees.{trees_after}
use Rattle.colour_readers.proofs.SubtreeLemmas.{trees_end}
use Rattle.colour_writers.specs.Inside.{tree_bytes, tree_layers, tree_places}

-- sizes
pub few_layers : (tree : Tree) → tree_layers tree ≤ tree_size tree
few_layers tree = omega (arith, layers-least (with_tree tree Bare))

pub size_with : (below : Forest) (tree : Tree) (rest : Forest) → below ≡ with_tree tree rest
    → forest_size below ≡ tree_size tree + forest_size rest
size_with below tree rest e = ap forest_size e

pub layers_with : (below : Forest) (tree : Tree) (rest : Forest) → below ≡ with_tree tree rest
    → forest_layers below ≡ tree_layers tree + forest_layers rest
layers_with below tree rest e = ap forest_layers e

-- bytes
bytes_with : (index : ℕ) (tree : Tree) (rest : Forest)
    → tree_bytes index tree ++ forest_bytes (index + tree_layers tree) rest ≡ forest_bytes index (with_tree tree rest)
bytes_with index tree rest =
    let own = own_count tree.shape tree.below in
    let one = shape_bytes tree.shape tree.first tree.rest (first_size tree.below) index in
    let same : index + (own + forest_layers tree.below) ≡ index + own + forest_layers tree.below = omega arith in
    append_assoc one (forest_bytes (index + own) tree.below) (forest_bytes (index + tree_layers tree) rest)
    ∙ ap (λ (m : ℕ). one ++ (forest_bytes (index + own) tree.below ++ forest_bytes m rest)) same

pub tree_put : (old new all : List ℕ) (index next : ℕ) (tree : Tree) (below rest : Forest) → below ≡ with_tree tree rest
    → new ≡ old ++ tree_bytes index tree → next ≡ index + tree_layers tree → old ++ forest_bytes index below ≡ all
    → new ++ forest_bytes next rest ≡ all
tree_put old new all index next tree below rest e put n is =
    (λ i. put i ++ forest_bytes (n i) rest)
    ∙ append_assoc old (tree_bytes index tree) (forest_bytes (index + tree_layers tree) rest)
    ∙ ap (λ (b : List ℕ). old ++ b) (bytes_with index tree rest) ∙ sym (ap (λ f. old ++ forest_bytes index f) e) ∙ is

pub bytes_end : (old all : List ℕ) (index i : ℕ) (below : Forest) → forest_count below ≤ i
    → old ++ forest_bytes index (trees_after i below) ≡ all → old ≡ all
bytes_end old all index i below h is =
    sym (append-nil old) ∙ sym (ap (λ f. old ++ forest_bytes index f) (trees_end i below h)) ∙ is

-- places
rows_append : (list : ℕ) (ps qs : List ℕ) → place_rows list (ps ++ qs) ≡ place_rows list ps ++ place_rows list qs
rows_append list [] qs = refl
rows_append list (p ∷ ps) qs =
    ap (λ (b : List ℕ). bytes_of_u32 (p - list) ++ b) (rows_append list ps qs)
    ∙ sym (append_assoc (bytes_of_u32 (p - list)) (place_rows list ps) (place_rows list qs))

pub places_begin : (old new all : List ℕ) (list at inner : ℕ) (tree : Tree) → inner ≡ at + shape_size tree.shape
    → new ≡ old ++ place_rows list (own_places tree.shape inner tree.below)
    → new ++ place_rows list (forest_places inner tree.below) ≡ old ++ place_rows list (tree_places at tree)
places_begin old new all list at inner tree e put =
    ap (λ (b : List ℕ). b ++ place_rows list (forest_places inner tree.below)) put
    ∙ append_assoc old (place_rows list (own_places tree.shape inner tree.below))
    (place_rows list (forest_places inner tree.below))
    ∙ ap (λ (b : List ℕ). old ++ b)
    (sym (rows_append list (own_places tree.shape inner tree.below) (forest_places inner tree.below)))
    ∙ ap (λ (m : ℕ). old ++ place_rows list (own_places tree.shape m tree.below ++ forest_places m tree.below)) e

places_with : (at : ℕ) (tree : Tree) (rest : Forest)
    → tree_places at tree ++ forest_places (at + tree_size tree) rest ≡ forest_places at (with_tree tree rest)
places_with at tree rest =
    let inner = at + shape_size tree.shape in
    append_assoc (own_places tree.shape inner tree.below) (forest_places inner tree.below)
    (forest_places (at + tree_size tree) rest)

pub places_put : (old new all : List ℕ) (list at next : ℕ) (tree : Tree) (below rest : Forest)
    → below ≡ with_tree tree rest → new ≡ old ++ place_rows list (tree_places at tree) → next ≡ at + tree_size tree
    → old ++ place_rows list (forest_places at below) ≡ all → new ++ place_rows list (forest_places next rest) ≡ all
places_put old new all list at next tree below rest e put n is =
    (λ i. put i ++ place_rows list (forest_places (n i) rest))
    ∙ append_assoc old (place_rows list (tree_places at tree))
    (place_rows list (forest_places (at + tree_size tree) rest))
    ∙ ap (λ (b : List ℕ). old ++ b)
    (sym (rows_append list (tree_places at tree) (forest_places (at + tree_size tree) rest)))
    ∙ ap (λ (ps : List ℕ). old ++ place_rows list ps) (places_with at tree rest)
    ∙ sym (ap (λ f. old ++ place_rows list (forest_places at f)) e) ∙ is

pub places_end : (old all : List ℕ) (list at i : ℕ) (below : Forest) → forest_count below ≤ i
    → old ++ place_rows list (forest_places at (trees_after i below)) ≡ all → old ≡ all
places_end old all list at i below h is =
    sym (append-nil old) ∙ sym (ap (λ f. old ++ place_rows list (forest_places at f)) (trees_end i below h)) ∙ is

pub start_put : (old new all : List ℕ) (list at next : ℕ) (tree : Tree) (below rest : Forest)
    → below ≡ with_tree tree rest → new ≡ old ++ bytes_of_u32 (at - list) → next ≡ at + tree_size tree
    → old ++ place_rows list (starts at below) ≡ all → new ++ place_rows list (starts next rest) ≡ all
start_put old new all list at next tree below rest e put n is =
    (λ i. put i ++ place_rows list (starts (n i) rest))
    ∙ append_assoc old (bytes_of_u32 (at - list)) (place_rows list (starts (at + tree_size tree) rest))
    ∙ sym (ap (λ f. old ++ place_rows list (starts at f)) e) ∙ is

pub starts_end : (old all : List ℕ) (list at i : ℕ) (below : Forest) → forest_count below ≤ i
    → old ++ place_rows list (starts at (trees_after i below)) ≡ all → old ≡ all
starts_end old all list at i below h is =
    sym (append-nil old) ∙ sym (ap (λ f. old ++ place_rows list (starts at f)) (trees_end i below h)) ∙ is
