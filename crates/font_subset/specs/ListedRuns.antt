-- The runs of the map of a file in a list, this project's own.
use Rattle.std.specs.Prelude.{◌≡◌, ℕ, List}
use Rattle.codes.specs.Runs.{spelled}
use Rattle.codes.specs.declared.runs.Run.{Run}
use Rattle.font_theory.specs.Content.{content, everything, plain_font}
use Rattle.map_union.specs.RunLists.{AreMapRuns}

-- the runs of the map of a file for all codes
pub record AreRunsOf (file : List ℕ) (runs : List Run) : Type 0 where
  pub spelled_map : spelled runs ≡ (content (plain_font file) everything).map
  pub of_map : AreMapRuns runs
