-- What is said of a glyph by one of two tables, this project's own.
use Rattle.std.specs.Prelude.{ℕ, List, Option, None}
use Rattle.colour_tables.specs.LayerLists.{layers_at}
use Rattle.colour_tables.specs.PaintLists.{Colour, colour_at, no_colour}
use Rattle.colour_tables.specs.declared.layer.Layer.{Layer}
use Rattle.colour_writers.specs.declared.sides.Side.{Side}
use Rattle.colour_writers.specs.declared.sides.Side.TheVariants.{First, Second, Neither}

-- one of two values, by a side, or none of them
abbrev pub by_side : {X : Type 0} → Side → X → X → X → X
by_side First one other neither = one
by_side Second one other neither = other
by_side Neither one other neither = neither

-- the layers of a glyph in one of two tables
abbrev pub picked_layers : (ℕ → Side) → List ℕ → List ℕ → ℕ → Option (List Layer)
picked_layers side t u g = by_side (side g) (layers_at t g) (layers_at u g) None

-- what one of two tables says of a glyph among n
abbrev pub picked_colour : (ℕ → Side) → ℕ → List ℕ → List ℕ → ℕ → Colour
picked_colour side n t u g = by_side (side g) (colour_at n t g) (colour_at n u g) no_colour
