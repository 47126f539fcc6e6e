-- Records of layers that are written are read back.
use Rattle.std.proofs.Common.{◌≡◌, ℕ, suc, ◌+◌, ◌*◌, ◌/◌, ◌%◌, ◌≤◌, true, eqb}
use Rattle.std.proofs.Common.{List, [], ◌∷◌, ◌++◌, length, drop, find, flat_map, Option, Some}
use Rattle.std.proofs.Common.{refl, ap, sym, ◌∙◌, arith, append_assoc, length-append, drop-drop, inl, inr}
use Rattle.std.specs.Option.{option_map}
use Rattle.std.proofs.Math.Seq.{drop-append-add}
use Rattle.std.proofs.lemmas.Bool.{and_from, cases_Bool, le-leb}
use Rattle.sfnt_bytes.specs.Number.{u16_at}
use Rattle.colour_tables.specs.ListedGlyphs.{said_of}
use Rattle.colour_tables.specs.LayerLists.{are_bases, bases_in, layers_in}
use Rattle.colour_tables.specs.MadeLayers.{base_rows, layer_bytes, layer_rows, layer_total}
use Rattle.colour_tables.specs.declared.layer.Base.{Base}
use Rattle.colour_tables.specs.declared.layer.Layer.{Layer}
use Rattle.colour_tables.proofs.GlyphLemmas.{Ascends}

-- a number of two bytes
pub word : (n : ℕ) → n / 256 * 256 + n % 256 ≡ n
word n = omega arith

-- layers
pub layers_read : (ls : List Layer) (z : List ℕ) → layers_in (length ls) (flat_map layer_bytes ls ++ z) ≡ ls
unfolding u16_at
layers_read [] z = refl
layers_read (l ∷ ls) z =
    λ i. record { glyph = word l.glyph i; palette_entry = word l.palette_entry i } ∷ layers_read ls z i

-- base glyphs
abbrev pub bases_from : ℕ → List (ℕ × List Layer) → List Base
bases_from first [] = []
bases_from first (e ∷ es) =
    record { glyph = e.0; first = first; count = length e.1 } ∷ bases_from (first + length e.1) es

pub bases_read : (first : ℕ) (es : List (ℕ × List Layer)) (z : List ℕ)
    → bases_in (length es) (base_rows first es ++ z) ≡ bases_from first es
unfolding u16_at
bases_read first [] z = refl
bases_read first (e ∷ es) z =
    λ i. record { glyph = word e.0 i; first = word first i; count = word (length e.1) i }
    ∷ bases_read (first + length e.1) es z i

-- sizes
pub layer_size : (ls : List Layer) → length (flat_map layer_bytes ls) ≡ 4 * length ls
layer_size [] = refl
layer_size (l ∷ ls) = omega (arith, layer_size ls)

pub layers_size : (es : List (ℕ × List Layer)) → length (layer_rows es) ≡ 4 * layer_total es
layers_size [] = refl
layers_size (e ∷ es) =
    omega (arith, length-append (flat_map layer_bytes e.1) (layer_rows es), layer_size e.1, layers_size es)

pub bases_size : (first : ℕ) (es : List (ℕ × List Layer)) → length (base_rows first es) ≡ 6 * length es
bases_size first [] = refl
bases_size first (e ∷ es) = omega (arith, bases_size (first + length e.1) es)

-- they are in order
pub bases_good : (n layers from first : ℕ) (es : List (ℕ × List Layer)) → first + layer_total es ≤ layers
    → Ascends from n es → are_bases n layers from (bases_from first es) ≡ true
bases_good n layers from first [] h r = refl
bases_good n layers from first (e ∷ es) h r =
    and_from _ _ (and_from _ _ (and_from _ _ (le-leb from e.0 r.0) (le-leb (suc e.0) n r.1))
    (le-leb (first + length e.1) layers (omega (arith, h))))
    (bases_good n layers (e.0 + 1) (first + length e.1) es (omega (arith, h)) r.2)

-- the layers of a glyph, where all layers stand from a place on
abbrev pub found : List ℕ → ℕ → ℕ → List Base → Option (List Layer)
found t place g bs =
    option_map (λ (b : Base). layers_in b.count (drop (place + 4 * b.first) t)) (find (λ b. eqb b.glyph g) bs)

pub found_layers : (t : List ℕ) (place g first : ℕ) (es : List (ℕ × List Layer)) (z : List ℕ)
    → drop (place + 4 * first) t ≡ layer_rows es ++ z → found t place g (bases_from first es) ≡ said_of g es
found_layers t place g first [] z there = refl
found_layers t place g first (e ∷ es) z there =
    let own = flat_map layer_bytes e.1 in
    let split = there ∙ append_assoc own (layer_rows es) z in
    elim (cases_Bool (eqb e.0 g)) [
      | inl t1 ↦
          rw t1 (ap (λ (b : List ℕ). Some (layers_in (length e.1) b)) split
          ∙ ap (λ (ls : List Layer). Some ls) (layers_read e.1 (layer_rows es ++ z)))
      | inr f ↦
          let further : place + 4 * (first + length e.1) ≡ place + 4 * first + (length own + 0) =
          omega (arith, layer_size e.1) in
          let rest : drop (place + 4 * (first + length e.1)) t ≡ layer_rows es ++ z =
          ap (λ (k : ℕ). drop k t) further ∙ sym (drop-drop (length own + 0) (place + 4 * first) t)
          ∙ ap (drop (length own + 0)) split ∙ drop-append-add own (layer_rows es ++ z) 0 in
          rw f (found_layers t place g (first + length e.1) es z rest)
    ]
