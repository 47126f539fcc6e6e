-- Words of private contracts and of proofs: no public clause names them.
use Rattle.std.specs.Prelude.{◌≡◌, ℕ, ◌+◌, ◌-◌, nat_eq, nat_le, nat_lt, not, Bool, true, ◌&&◌, List, [], ◌∷◌, drop}
use Rattle.std.specs.Prelude.{length}
use Rattle.std.specs.Prelude.{slice_index, if◌then◌else◌, Option, None, Some}
use Rattle.std.specs.Option.{option_and_then, option_map_or}
use Rattle.sfnt_bytes.specs.Number.{u16_at, u32_at}
use Rattle.colour_tables.specs.PaintLists.{tree_size}
use Rattle.colour_tables.specs.Paints.{Tree, place_from, rest_of, shape_of, shape_size, u24_at}
use Rattle.colour_tables.specs.declared.shape.Kind.{Kind}
use Rattle.colour_tables.specs.declared.shape.Kind.TheVariants.{Affine, ClipBox, ColorLine, Paint}
use Rattle.colour_tables.specs.declared.shape.Shape.{Shape}
use Rattle.colour_tables.specs.declared.shape.Shape.TheVariants.{Layers, One, Plain, Two}

-- the glyph that bytes of a kind name
abbrev pub glyph_named : Kind → List ℕ → Option ℕ
glyph_named Paint b =
    if nat_eq (slice_index b 0) 10 then Some (u16_at b 4)
    else if nat_eq (slice_index b 0) 11 then Some (u16_at b 1) else None
glyph_named (ColorLine stop) b = None
glyph_named (Affine more) b = None
glyph_named ClipBox b = None

-- they name none but one below n
abbrev pub names_in : ℕ → Kind → List ℕ → Bool
names_in n k b = option_map_or (λ g. nat_lt g n) (glyph_named k b) true

-- the shape of a clip box of a format
abbrev pub box_shape : ℕ → Option Shape
box_shape format =
    if nat_eq format 1 then Some (Plain 8) else if nat_eq format 2 then Some (Plain 12) else None

-- bytes of a shape are all there
abbrev pub is_there : ℕ → ℕ → Kind → List ℕ → Shape → Bool
is_there n at k b s = not (nat_eq at 0) && nat_le (shape_size s) (length b) && names_in n k b

-- the shape at a place of a table, where it is all there
abbrev pub shape_at : ℕ → List ℕ → ℕ → Kind → Option Shape
shape_at n t at k =
    option_and_then (λ s. if is_there n at k (drop at t) s then Some s else None) (shape_of k (drop at t))

-- how many offsets a shape has, by its bytes
abbrev pub link_count : Shape → List ℕ → ℕ
link_count (Plain more) b = 0
link_count (One more k) b = 1
link_count (Two more k l) b = 2
link_count Layers b = slice_index b 1

-- the place that one of them leads to, and what is there
abbrev pub link_at : List ℕ → Shape → ℕ → List ℕ → ℕ → ℕ × Kind
link_at layers (Plain more) at b i = (0, Paint)
link_at layers (One more k) at b i = (place_from at (u24_at b 1), k)
link_at layers (Two more k l) at b i =
    if nat_eq i 0 then (place_from at (u24_at b 1), k) else (place_from at (u24_at b (4 + more)), l)
link_at layers Layers at b i = (slice_index layers (u32_at b 2 + i), Paint)

-- what is left of a room after something of a size, where it is there and has room
abbrev pub room_left : {X : Type 0} → (X → ℕ) → ℕ → Option X → Option ℕ
room_left size room None = None
room_left size room (Some x) = if nat_le (size x) room then Some (room - size x) else None

-- what is left after trees at places
abbrev pub rooms : (ℕ → Kind → Option Tree) → ℕ → List (ℕ × Kind) → Option ℕ
rooms tree_at room [] = Some room
rooms tree_at room (x ∷ xs) =
    option_and_then (λ left. rooms tree_at left xs) (room_left tree_size room (tree_at x.0 x.1))

-- two parts of a shape have the same bytes but for their offsets
abbrev pub HasSameFields : Shape → List ℕ → List ℕ → Type 0
HasSameFields s b c = (slice_index b 0 ≡ slice_index c 0) × (rest_of s b ≡ rest_of s c)

-- two tables have the same shape, and the same bytes but for offsets, at places
pub record IsSameShape (n : ℕ) (t u : List ℕ) (at other : ℕ) (k : Kind) (s : Shape) : Type 0 where
  pub first : Some s ≡ shape_at n t at k
  pub second : Some s ≡ shape_at n u other k
  pub fields : HasSameFields s (drop at t) (drop other u)
