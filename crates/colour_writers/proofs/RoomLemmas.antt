-- Whether what is written has room.
use Rattle.std.proofs.Common.{◌≡◌, ℕ, ◌+◌, ◌<◌, ◌≤◌, true, false, Bool, leb, ◌&&◌, subst, sym, ◌∙◌, arith}
use Rattle.std.proofs.lemmas.Bool.{and_parts, false_from_ne_true, le-leb, leb-true}
use Rattle.colour_tables.specs.LayerLists.{layers_have_room}
use Rattle.colour_tables.specs.ListedGlyphs.{sum_below}
use Rattle.colour_tables.specs.PaintLists.{Colour, MAX_BYTES, colour_size, colours_have_room}
use Rattle.colour_writers.proofs.LayerLemmas.{sum_rises}

abbrev Colours : Type 0
Colours = ℕ → Colour

pub no_layer_room : (n : ℕ) (x : Colours) (b : Bool) → b ≡ layers_have_room n (λ g. (x g).layers) → b ≡ false
    → false ≡ colours_have_room n x
unfolding colours_have_room
no_layer_room n x b e no_one =
    let none : layers_have_room n (λ g. (x g).layers) ≡ false = sym e ∙ no_one in
    sym (λ i. none i && leb (sum_below (λ g. colour_size (x g)) n) MAX_BYTES)

pub no_colour_room : (n g left : ℕ) (x : Colours) → g < n → left < colour_size (x g)
    → left + sum_below (λ g. colour_size (x g)) g ≡ 16777215 → false ≡ colours_have_room n x
unfolding colours_have_room MAX_BYTES
no_colour_room n g left x h less room =
    sym (false_from_ne_true (colours_have_room n x) (λ yes.
    let both =
    and_parts (layers_have_room n (λ g. (x g).layers)) (leb (sum_below (λ g. colour_size (x g)) n) 16777215) yes in
    omega (
      arith,
      leb-true (sum_below (λ g. colour_size (x g)) n) 16777215 both.1,
      sum_rises (λ g. colour_size (x g)) g n h,
      less,
      room,
    )))

pub colours_end : (n g left : ℕ) (x : Colours) (b : Bool) → n ≤ g → g ≤ n
    → b ≡ layers_have_room n (λ g. (x g).layers) → b ≡ true
    → left + sum_below (λ g. colour_size (x g)) g ≡ 16777215 → true ≡ colours_have_room n x
unfolding colours_have_room MAX_BYTES
colours_end n g left x b h l e is room =
    let same : g ≡ n = omega (arith, h, l) in
    let all : layers_have_room n (λ g. (x g).layers) ≡ true = sym e ∙ is in
    let few : sum_below (λ g. colour_size (x g)) n ≤ 16777215 =
    subst (λ (m : ℕ). sum_below (λ g. colour_size (x g)) m ≤ 16777215) same (omega (arith, room)) in
    sym (λ i. all i && le-leb (sum_below (λ g. colour_size (x g)) n) 16777215 few i)
