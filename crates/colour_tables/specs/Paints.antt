-- What the offsets of a colour table of version 1 lead to, as trees (OpenType 1.9, COLR, Paint tables; ColorLine,
-- VarColorLine; Affine2x3, VarAffine2x3; ClipBox).
use Rattle.std.specs.Prelude.{ℕ, zero, suc, ◌+◌, ◌-◌, ◌*◌, nat_eq, nat_le, nat_lt, not, Bool, true, ◌&&◌, ◌||◌}
use Rattle.std.specs.Prelude.{List, [], ◌∷◌, drop, length, replicate, slice_get, slice_index, take, if◌then◌else◌}
use Rattle.std.specs.Prelude.{Option, None, Some}
use Rattle.std.specs.Option.{option_and_then, option_map}
use Rattle.sfnt_bytes.specs.Number.{u16_at, u32_at}
use Rattle.colour_tables.specs.declared.shape.Kind.{Kind}
use Rattle.colour_tables.specs.declared.shape.Kind.TheVariants.{Affine, ClipBox, ColorLine, Paint}
use Rattle.colour_tables.specs.declared.shape.Shape.{Shape}
use Rattle.colour_tables.specs.declared.shape.Shape.TheVariants.{Layers, One, Plain, Two}

-- the uint24 at a place (OpenType 1.9, Data Types)
unfoldable pub u24_at : List ℕ → ℕ → ℕ
u24_at bytes at =
    slice_index bytes at * 65536 + slice_index bytes (at + 1) * 256 + slice_index bytes (at + 2)

-- the paints by format, from 1 on (OpenType 1.9, COLR, Paint tables)
abbrev pub paint_shapes : List Shape
paint_shapes =
    Layers  -- 1 PaintColrLayers: numLayers, firstLayerIndex
    ∷ Plain 4  -- 2 PaintSolid: paletteIndex, alpha
    ∷ Plain 8  -- 3 PaintVarSolid
    ∷ One 12 (ColorLine 6)  -- 4 PaintLinearGradient: x0, y0, x1, y1, x2, y2
    ∷ One 16 (ColorLine 10)  -- 5 PaintVarLinearGradient
    ∷ One 12 (ColorLine 6)  -- 6 PaintRadialGradient: x0, y0, radius0, x1, y1, radius1
    ∷ One 16 (ColorLine 10)  -- 7 PaintVarRadialGradient
    ∷ One 8 (ColorLine 6)  -- 8 PaintSweepGradient: centerX, centerY, startAngle, endAngle
    ∷ One 12 (ColorLine 10)  -- 9 PaintVarSweepGradient
    ∷ One 2 Paint  -- 10 PaintGlyph: glyphID
    ∷ Plain 2  -- 11 PaintColrGlyph: glyphID
    ∷ Two 0 Paint (Affine 23)  -- 12 PaintTransform
    ∷ Two 0 Paint (Affine 27)  -- 13 PaintVarTransform
    ∷ One 4 Paint  -- 14 PaintTranslate: dx, dy
    ∷ One 8 Paint  -- 15 PaintVarTranslate
    ∷ One 4 Paint  -- 16 PaintScale: scaleX, scaleY
    ∷ One 8 Paint  -- 17 PaintVarScale
    ∷ One 8 Paint  -- 18 PaintScaleAroundCenter: scaleX, scaleY, centerX, centerY
    ∷ One 12 Paint  -- 19 PaintVarScaleAroundCenter
    ∷ One 2 Paint  -- 20 PaintScaleUniform: scale
    ∷ One 6 Paint  -- 21 PaintVarScaleUniform
    ∷ One 6 Paint  -- 22 PaintScaleUniformAroundCenter: scale, centerX, centerY
    ∷ One 10 Paint  -- 23 PaintVarScaleUniformAroundCenter
    ∷ One 2 Paint  -- 24 PaintRotate: angle
    ∷ One 6 Paint  -- 25 PaintVarRotate
    ∷ One 6 Paint  -- 26 PaintRotateAroundCenter: angle, centerX, centerY
    ∷ One 10 Paint  -- 27 PaintVarRotateAroundCenter
    ∷ One 4 Paint  -- 28 PaintSkew: xSkewAngle, ySkewAngle
    ∷ One 8 Paint  -- 29 PaintVarSkew
    ∷ One 8 Paint  -- 30 PaintSkewAroundCenter: xSkewAngle, ySkewAngle, centerX, centerY
    ∷ One 12 Paint  -- 31 PaintVarSkewAroundCenter
    ∷ Two 1 Paint Paint  -- 32 PaintComposite: compositeMode
    ∷ []

-- the shape of what begins bytes and is of a kind, by its format or its count of stops, if there is one
abbrev pub shape_of : Kind → List ℕ → Option Shape
shape_of Paint b =
    if nat_eq (slice_index b 0) 0 then None else slice_get paint_shapes (slice_index b 0 - 1)
shape_of (ColorLine stop) b = Some (Plain (2 + stop * u16_at b 1))
shape_of (Affine more) b = Some (Plain more)
shape_of ClipBox b =
    if nat_eq (slice_index b 0) 1 then Some (Plain 8)
    else if nat_eq (slice_index b 0) 2 then Some (Plain 12) else None

-- how many bytes it has
abbrev pub shape_size : Shape → ℕ
shape_size (Plain more) = 1 + more
shape_size (One more k) = 4 + more
shape_size (Two more k l) = 7 + more
shape_size Layers = 6

-- its bytes but for the first and for offsets
abbrev pub rest_of : Shape → List ℕ → List ℕ
rest_of (Plain more) b = take more (drop 1 b)
rest_of (One more k) b = take more (drop 4 b)
rest_of (Two more k l) b = take more (drop 4 b)
rest_of Layers b = take 1 (drop 1 b)

-- what its offsets lead to, by its bytes but for the first and for offsets
abbrev pub kinds_below : Shape → List ℕ → List Kind
kinds_below (Plain more) rest = []
kinds_below (One more k) rest = k ∷ []
kinds_below (Two more k l) rest = k ∷ l ∷ []
kinds_below Layers rest = replicate (slice_index rest 0) Paint

-- the place that an offset leads to from another; 0, which is no place, for the offset 0
abbrev pub place_from : ℕ → ℕ → ℕ
place_from at offset = if nat_eq offset 0 then 0 else at + offset

-- so many places of layers, from an index on
abbrev pub layer_links : List ℕ → ℕ → ℕ → List (ℕ × Kind)
layer_links layers first zero = []
layer_links layers first (suc k) = (slice_index layers first, Paint) ∷ layer_links layers (first + 1) k

-- the places that the offsets of bytes at a place lead to, and what is there
abbrev pub links_of : List ℕ → Shape → ℕ → List ℕ → List (ℕ × Kind)
links_of layers (Plain more) at b = []
links_of layers (One more k) at b = (place_from at (u24_at b 1), k) ∷ []
links_of layers (Two more k l) at b =
    (place_from at (u24_at b 1), k) ∷ (place_from at (u24_at b (4 + more)), l) ∷ []
links_of layers Layers at b = layer_links layers (u32_at b 2) (slice_index b 1)

-- a paint names no glyph but one below n (OpenType 1.9, COLR, PaintGlyph; PaintColrGlyph)
abbrev pub names_glyph : ℕ → Kind → ℕ → List ℕ → Bool
names_glyph n Paint format rest =
    not (nat_eq format 10 || nat_eq format 11) || nat_lt (u16_at rest 0) n
names_glyph n (ColorLine stop) first rest = true
names_glyph n (Affine more) first rest = true
names_glyph n ClipBox format rest = true

-- trees in a row: none; or one of a shape, with its first byte, its other bytes but for offsets, and the trees that
-- its offsets lead to, and then others
pub data Forest : Type 0 where
  Bare : Forest
  With : Shape → ℕ → List ℕ → Forest → Forest → Forest

-- one tree
pub record Tree : Type 0 where
  pub shape : Shape
  pub first : ℕ
  pub rest : List ℕ
  pub below : Forest

-- a tree in front of others
abbrev pub with_tree : Tree → Forest → Forest
with_tree tree after = With tree.shape tree.first tree.rest tree.below after

-- the trees at places, if there is one at each
abbrev pub all_trees : (ℕ → Kind → Option Tree) → List (ℕ × Kind) → Option Forest
all_trees tree_at [] = Some Bare
all_trees tree_at (x ∷ xs) =
    option_and_then (λ tree. option_map (with_tree tree) (all_trees tree_at xs)) (tree_at x.0 x.1)

-- a tree of a shape, with what is below it, if its bytes are all there, at a place
abbrev pub tree_of : ℕ → Kind → ℕ → List ℕ → Option Forest → Shape → Option Tree
tree_of n k at b below s =
    if not (nat_eq at 0) && nat_le (shape_size s) (length b) && names_glyph n k (slice_index b 0) (rest_of s b)
    then option_map (λ trees. record { shape = s; first = slice_index b 0; rest = rest_of s b; below = trees }) below
    else None

-- the tree at a place of a table with these places of layers, nested so deep at most
abbrev pub tree_at : ℕ → List ℕ → List ℕ → ℕ → ℕ → Kind → Option Tree
tree_at n t layers zero at k = None
tree_at n t layers (suc depth) at k =
    option_and_then (λ s. tree_of n k at (drop at t)
    (all_trees (tree_at n t layers depth) (links_of layers s at (drop at t))) s) (shape_of k (drop at t))

-- how deep trees are nested at most
unfoldable pub MAX_DEPTH : ℕ
MAX_DEPTH = 64
