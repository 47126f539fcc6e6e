-- A table in which layers of glyphs are written.
use Rattle.std.proofs.Common.{◌≡◌, ℕ, zero, suc, ◌+◌, ◌-◌, ◌*◌, ◌/◌, ◌%◌, ◌<◌, ◌≤◌, Bool, true, false, cond, eqb, leb}
use Rattle.std.proofs.Common.{not, ◌||◌, List, [], ◌∷◌, ◌++◌, length, drop, Option, refl, ap, sym, ◌∙◌, arith}
use Rattle.std.proofs.Common.{append_assoc, length-append, Some, inl, inr}
use Rattle.std.proofs.lemmas.List.{drop-drop, length-drop}
use Rattle.std.proofs.Math.Seq.{drop-append-add, drop-append_seam}
use Rattle.std.proofs.lemmas.Bool.{and_from, cases_Bool, le-leb, ne_eqb}
use Rattle.sfnt_bytes.specs.Number.{number, u16_at, u32_at}
use Rattle.colour_tables.specs.ListedGlyphs.{listed, said_of}
use Rattle.colour_tables.specs.LayerLists.{are_bases, base_count, bases_in, bases_of, bases_offset, has_layer_lists}
use Rattle.colour_tables.specs.LayerLists.{has_records, layer_count, layers_at, layers_in}
use Rattle.colour_tables.specs.LayerLists.{layers_of, layers_offset}
use Rattle.colour_tables.specs.Laws.{HasLayersOf, LayersAreReadBack}
use Rattle.colour_tables.specs.MadeLayers.{base_rows, layer_header, layer_lists, layer_rows, layer_total, offset_of}
use Rattle.colour_tables.specs.declared.layer.Layer.{Layer}
use Rattle.colour_tables.proofs.GlyphLemmas.{Ascends, listed-ascends, said-listed}
use Rattle.colour_tables.proofs.LayerLemmas.{bases_from, bases_good, bases_read, bases_size, found, found_layers}
use Rattle.colour_tables.proofs.LayerLemmas.{layers_size, word}

-- a number of four bytes
pub long : (n : ℕ) → number (n / 16777216) (n / 65536 % 256) (n / 256 % 256) (n % 256) ≡ n
long n = omega arith

-- the offset of a list that is not empty
pub offset-some : (count place : ℕ) → 0 < count → offset_of count place ≡ place
offset-some count place some = ap (λ b. cond b 0 place) (ne_eqb count 0 (λ e. omega (arith, e, some)))

-- what is left from a place on is so long
pub left_long : (place : ℕ) (t : List ℕ) → length (drop place t) ≡ length t - place
left_long place t = length-drop place t

pub or_right : (x y : Bool) → y ≡ true → (x || y) ≡ true
or_right true y t = refl
or_right false y t = t

-- records that are there
pub records_there : (t : List ℕ) (offset count size place room : ℕ) → offset ≡ offset_of count place → 0 < place
    → 0 < size → length (drop place t) ≡ room → size * count ≤ room → has_records t offset count size ≡ true
records_there t offset zero size place room e some wide l h = refl
records_there t offset (suc k) size place room e some wide l h =
    let least : size ≤ size * suc k = omega arith in
    let own = e ∙ offset-some (suc k) place (omega arith) in
    let here : place + size * suc k ≤ length t = omega (arith, l, h, wide, least, left_long place t) in
    let there : offset + size * suc k ≤ length t = omega (arith, own, here) in
    let apart : eqb offset 0 ≡ false = ne_eqb offset 0 (λ zero_is. omega (arith, own, zero_is, some)) in
    or_right (eqb (suc k) 0) _
    (and_from (not (eqb offset 0)) (leb (offset + size * suc k) (length t)) (ap not apart) (le-leb _ _ there))

-- the lists of some glyphs stand in a table from a place on
pub record HasLists (glyphs : List (ℕ × List Layer)) (place : ℕ) (after t : List ℕ) : Type 0 where
  pub count : base_count t ≡ length glyphs
  pub total : layer_count t ≡ layer_total glyphs
  pub bases : bases_offset t ≡ offset_of (length glyphs) place
  pub layers : layers_offset t ≡ offset_of (layer_total glyphs) (place + 6 * length glyphs)
  pub some : 0 < place
  pub there : drop place t ≡ layer_lists glyphs ++ after

-- where there is no layer, each list of layers is empty
no_layers : (t : List ℕ) (place g : ℕ) (ls : List Layer) → length ls ≡ 0 → (first : ℕ)
    → Some (layers_in (length ls) (drop (place + 4 * first) t)) ≡ Some ls
no_layers t place g [] e first = refl
no_layers t place g (l ∷ ls) e first = absurd (omega (arith, e))

found_none : (t : List ℕ) (place g first : ℕ) (es : List (ℕ × List Layer)) → layer_total es ≡ 0
    → found t place g (bases_from first es) ≡ said_of g es
found_none t place g first [] e = refl
found_none t place g first (x ∷ es) e = elim (cases_Bool (eqb x.0 g)) [
  | inl t1 ↦ rw t1 (no_layers t place g x.1 (omega (arith, e)) first)
  | inr f ↦ rw f (found_none t place g (first + length x.1) es (omega (arith, e)))
]

module _ (n place : ℕ) (glyphs : List (ℕ × List Layer)) (after t : List ℕ) (has : HasLists glyphs place after t) where
  abbrev rows : List ℕ
  rows = base_rows 0 glyphs

  split : drop place t ≡ rows ++ (layer_rows glyphs ++ after)
  split = has.there ∙ append_assoc rows (layer_rows glyphs) after

  bases_at : (count : ℕ) → count ≡ length glyphs
      → bases_in (length glyphs) (drop (offset_of count place) t) ≡ bases_from 0 glyphs
  bases_at zero e = by_length glyphs e
    where
      by_length : (es : List (ℕ × List Layer)) → 0 ≡ length es
          → bases_in (length es) (drop (offset_of 0 place) t) ≡ bases_from 0 es
      by_length [] e = refl
      by_length (x ∷ es) e = absurd (omega (arith, e))
  bases_at (suc k) e =
      ap (λ (b : List ℕ). bases_in (length glyphs) b)
      (ap (λ (o : ℕ). drop o t) (offset-some (suc k) place (omega arith)) ∙ split)
      ∙ bases_read 0 glyphs (layer_rows glyphs ++ after)

  pub bases_are : bases_of t ≡ bases_from 0 glyphs
  unfolding bases_of
  bases_are =
      (λ i. bases_in (has.count i) (drop (has.bases i) t)) ∙ bases_at (length glyphs) refl

  layers_there : drop (place + 6 * length glyphs + 4 * 0) t ≡ layer_rows glyphs ++ after
  layers_there =
      let further : place + 6 * length glyphs + 4 * 0 ≡ place + (length rows + 0) =
      omega (arith, bases_size 0 glyphs) in
      ap (λ (k : ℕ). drop k t) further ∙ sym (drop-drop (length rows + 0) place t) ∙ ap (drop (length rows + 0)) split
      ∙ drop-append-add rows (layer_rows glyphs ++ after) 0

  layers_by : (total g : ℕ) → total ≡ layer_total glyphs
      → found t (offset_of total (place + 6 * length glyphs)) g (bases_from 0 glyphs) ≡ said_of g glyphs
  layers_by zero g e = found_none t _ g 0 glyphs (sym e)
  layers_by (suc k) g e =
      ap (λ (o : ℕ). found t o g (bases_from 0 glyphs)) (offset-some (suc k) _ (omega arith))
      ∙ found_layers t (place + 6 * length glyphs) g 0 glyphs after layers_there

  pub layers_are : (g : ℕ) → layers_at t g ≡ said_of g glyphs
  unfolding layers_at layers_of
  layers_are g =
      (λ i. found t (has.layers i) g (bases_are i)) ∙ layers_by (layer_total glyphs) g refl

  size : length (drop place t) ≡ 6 * length glyphs + (4 * layer_total glyphs + length after)
  size =
      ap length split ∙ length-append rows (layer_rows glyphs ++ after)
      ∙ omega (arith, length-append (layer_rows glyphs) after, layers_size glyphs, bases_size 0 glyphs)

  layers_room : length (drop (place + 6 * length glyphs) t) ≡ 4 * layer_total glyphs + length after
  layers_room = omega (arith, size, length-drop place t, length-drop (place + 6 * length glyphs) t)

  pub lists_are : Ascends 0 n glyphs → has_layer_lists n t ≡ true
  unfolding has_layer_lists
  lists_are order =
      let bases : has_records t (bases_offset t) (base_count t) 6 ≡ true =
      ap (λ (k : ℕ). has_records t (bases_offset t) k 6) has.count
      ∙ records_there t (bases_offset t) (length glyphs) 6 place _ has.bases has.some (omega arith) size
      (omega arith) in
      let layers : has_records t (layers_offset t) (layer_count t) 4 ≡ true =
      ap (λ (k : ℕ). has_records t (layers_offset t) k 4) has.total
      ∙ records_there t (layers_offset t) (layer_total glyphs) 4 (place + 6 * length glyphs) _ has.layers
      (omega (arith, has.some)) (omega arith) layers_room (omega arith) in
      let order_are : are_bases n (layer_count t) 0 (bases_of t) ≡ true =
      (λ i. are_bases n (has.total i) 0 (bases_are i))
      ∙ bases_good n (layer_total glyphs) 0 0 glyphs (omega arith) order in
      and_from _ _ (and_from _ _ bases layers) order_are

-- what is read of a table with the lists of what is said of glyphs
pub listed_read : (n place : ℕ) (said : ℕ → Option (List Layer)) (after t : List ℕ)
    → HasLists (listed said 0 n) place after t → HasLayersOf n said t
listed_read n place said after t has = record {
  lists = lists_are n place (listed said 0 n) after t has (listed-ascends said 0 n n (omega arith));
  layers = λ g l.
      layers_are n place (listed said 0 n) after t has g ∙ said-listed said g 0 n (omega arith) (omega (arith, l));
}

-- a header of 14 bytes or more, and the lists after it
pub header_lists : (version : ℕ) (glyphs : List (ℕ × List Layer)) (between after : List ℕ)
    → HasLists glyphs (14 + length between) after
    (layer_header version (14 + length between) glyphs ++ between ++ layer_lists glyphs ++ after)
unfolding base_count bases_offset layer_count layers_offset u16_at u32_at
header_lists version glyphs between after =
    let place = 14 + length between in
    let front = layer_header version place glyphs ++ between in
    let long_front : length front ≡ place = omega (arith, length-append (layer_header version place glyphs) between) in
    record {
      count = word (length glyphs);
      total = word (layer_total glyphs);
      bases = long (offset_of (length glyphs) place);
      layers = long (offset_of (layer_total glyphs) (place + 6 * length glyphs));
      some = omega arith;
      there =
          ap (drop place) (append_assoc front (layer_lists glyphs) after)
          ∙ ap (λ (k : ℕ). drop k (front ++ (layer_lists glyphs ++ after))) (sym long_front)
          ∙ drop-append_seam front (layer_lists glyphs ++ after);
    }

pub read_back : LayersAreReadBack
read_back n version layers between after =
    listed_read n (14 + length between) layers after _ (header_lists version (listed layers 0 n) between after)
