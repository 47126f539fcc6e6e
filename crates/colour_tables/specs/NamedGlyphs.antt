-- The glyphs that the colours of a glyph name (OpenType 1.9, COLR, Layer records; PaintGlyph; PaintColrGlyph).
use Rattle.std.specs.Prelude.{ℕ, nat_eq, ◌||◌, List, [], ◌∷◌, ◌++◌, map, if◌then◌else◌, Option}
use Rattle.std.specs.Option.{option_map_or}
use Rattle.sfnt_bytes.specs.Number.{u16_at}
use Rattle.colour_tables.specs.PaintLists.{Colour}
use Rattle.colour_tables.specs.Paints.{Bare, Forest, With, kinds_below, with_tree}
use Rattle.colour_tables.specs.declared.layer.Layer.{Layer}
use Rattle.colour_tables.specs.declared.shape.Kind.{Kind}
use Rattle.colour_tables.specs.declared.shape.Kind.TheVariants.{Affine, ClipBox, ColorLine, Paint}

-- the glyph that a paint names: PaintGlyph and PaintColrGlyph, glyphID
abbrev pub named_by : Kind → ℕ → List ℕ → List ℕ
named_by Paint format rest = if nat_eq format 10 || nat_eq format 11 then u16_at rest 0 ∷ [] else []
named_by (ColorLine stop) first rest = []
named_by (Affine more) first rest = []
named_by ClipBox format rest = []

-- those of trees of these kinds
abbrev pub forest_names : List Kind → Forest → List ℕ
forest_names ks Bare = []
forest_names [] (With s first rest below after) = []
forest_names (k ∷ ks) (With s first rest below after) =
    named_by k first rest ++ forest_names (kinds_below s rest) below ++ forest_names ks after

-- those of layers: glyphID
abbrev pub layer_names : Option (List Layer) → List ℕ
layer_names layers = option_map_or (map (λ layer. layer.glyph)) layers []

-- those of all that is said of a glyph
abbrev pub colour_names : Colour → List ℕ
colour_names c =
    layer_names c.layers ++ option_map_or (λ tree. forest_names (Paint ∷ []) (with_tree tree Bare)) c.paint []
