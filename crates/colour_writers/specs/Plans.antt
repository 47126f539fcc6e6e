-- What stands where in a table of version 1: words of private contracts and of proofs.
use Rattle.std.specs.Prelude.{◌≡◌, ℕ, ◌<◌, ◌≤◌, ◌++◌, List, length}
use Rattle.colour_tables.specs.ListedGlyphs.{listed}
use Rattle.colour_tables.specs.MadeLayers.{layer_header, layer_lists, layer_total}
use Rattle.colour_tables.specs.MadePaints.{base_place, boxes_place, clips_place, forest_layers, forest_of, layers_place}
use Rattle.colour_tables.specs.MadePaints.{map_place, paint_header, paints_place}
use Rattle.colour_tables.specs.PaintLists.{Colour, forest_size}
use Rattle.colour_tables.specs.Paints.{Tree}
use Rattle.colour_tables.specs.Stores.{Store}
use Rattle.colour_tables.specs.declared.layer.Layer.{Layer}
use Rattle.colour_writers.specs.declared.plans.Plan.{Plan}

-- the glyphs with layers, with paints, and with clip boxes
abbrev pub layers_of : ℕ → (ℕ → Colour) → List (ℕ × List Layer)
layers_of n x = listed (λ g. (x g).layers) 0 n

abbrev pub paints_of : ℕ → (ℕ → Colour) → List (ℕ × Tree)
paints_of n x = listed (λ g. (x g).paint) 0 n

abbrev pub boxes_of : ℕ → (ℕ → Colour) → List (ℕ × Tree)
boxes_of n x = listed (λ g. (x g).box) 0 n

-- the header and the lists of layers
abbrev pub front_bytes : ℕ → (ℕ → Colour) → Store → List ℕ
front_bytes n x w =
    layer_header 1 34 (layers_of n x) ++ paint_header (layers_of n x) (paints_of n x) (boxes_of n x) w
    ++ layer_lists (layers_of n x)

-- a plan of what is said of n glyphs
pub record IsPlanOf (n : ℕ) (x : ℕ → Colour) (plan : Plan) : Type 0 where
  pub glyphs : plan.layers.glyphs ≡ length (layers_of n x)
  pub layers : plan.layers.layers ≡ layer_total (layers_of n x)
  pub few : layer_total (layers_of n x) < 65536
  pub paints : plan.paints.glyphs ≡ length (paints_of n x)
  pub places : plan.paints.layers ≡ forest_layers (forest_of (paints_of n x))
  pub boxes : plan.boxes.glyphs ≡ length (boxes_of n x)
  pub paint_size : forest_size (forest_of (paints_of n x)) < 16777216
  pub box_size : forest_size (forest_of (boxes_of n x)) < 16777216
  pub at_bases : plan.at.bases ≡ base_place (layers_of n x)
  pub at_layers : plan.at.layers ≡ layers_place (layers_of n x) (paints_of n x)
  pub at_paints : plan.at.paints ≡ paints_place (layers_of n x) (paints_of n x)
  pub at_clips : plan.at.clips ≡ clips_place (layers_of n x) (paints_of n x)
  pub at_boxes : plan.at.boxes ≡ boxes_place (layers_of n x) (paints_of n x) (boxes_of n x)
  pub at_map : plan.at.map ≡ map_place (layers_of n x) (paints_of n x) (boxes_of n x)
  pub small : plan.at.map ≤ 90000000
