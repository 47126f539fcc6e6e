-- Character maps as lists of runs, and the map that two lists spell, this project's own.
use Rattle.std.specs.Prelude.{ℕ, List}
use Rattle.codes.specs.CharacterMap.{AreCompatible, IsCharacterMap, united}
use Rattle.codes.specs.Runs.{AreRuns, spelled}
use Rattle.codes.specs.declared.runs.Run.{Run}

-- the runs of a character map: the one that they spell
pub record AreMapRuns (runs : List Run) : Type 0 where
  pub map : IsCharacterMap (spelled runs)
  pub are : AreRuns (spelled runs) 0 runs

-- the map of a union, spelled by two lists of runs
pub record TwoLists : Type 0 where
  pub settled : List Run
  pub recent : List Run

-- that map: the first list decides where it has a code
abbrev pub map_in : TwoLists → ℕ → ℕ
map_in lists = united (spelled lists.settled) (spelled lists.recent)

-- both lists are the runs of maps that give no code two glyphs
pub record AreTwoLists (lists : TwoLists) : Type 0 where
  pub settled : AreMapRuns lists.settled
  pub recent : AreMapRuns lists.recent
  pub agree : AreCompatible (spelled lists.settled) (spelled lists.recent)
