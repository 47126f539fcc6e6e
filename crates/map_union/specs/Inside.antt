-- Words of proofs, and of contracts of calls that `font_cut` does not pass on.
use Rattle.codes.specs.Runs.{groups_from}
use Rattle.codes.specs.declared.runs.Run.{Run}
use Rattle.std.specs.Prelude.{◌≡◌, ◌≢◌, ℕ, ◌+◌, ◌<◌, ◌≤◌, List, length, ◌++◌, get_or}

-- the run at a place
abbrev pub run_at : List Run → ℕ → Run
run_at runs k = get_or runs k (record { first = 0; last = 0; glyph = 0 })

-- the runs before a place end below a code
pub record IsPast (runs : List Run) (from at : ℕ) : Type 0 where
  pub within : at ≤ length runs
  pub before : (k : ℕ) → k < at → (run_at runs k).last < from

-- that of a place in each of two lists
pub record ArePast (a b : List Run) (from i j : ℕ) : Type 0 where
  pub first : IsPast a from i
  pub second : IsPast b from j

-- the runs before a place end below a code; another place, not before it, is after all runs, or its run does
-- not end below the code
pub record IsBetween (runs : List Run) (from low high : ℕ) : Type 0 where
  pub past : IsPast runs from low
  pub order : low ≤ high
  pub within : high ≤ length runs
  pub there : high < length runs → from ≤ (run_at runs high).last

-- the runs before a place end below a code, and the one at that place does not
pub record IsPlace (runs : List Run) (from at : ℕ) : Type 0 where
  pub past : IsPast runs from at
  pub there : at < length runs → from ≤ (run_at runs at).last

-- a map leaves a run alone: it has no code from a given one on up to the end of the run, and after it none
-- that goes on with it
pub record LeavesAlone (m : ℕ → ℕ) (from : ℕ) (run : Run) : Type 0 where
  pub none : (c : ℕ) → from ≤ c → c ≤ run.last → m c ≡ 0
  pub behind : m (run.last + 1) + run.first ≢ run.glyph + (run.last + 1)

-- after a run of a list up to another place, a map leaves each run alone from a code on
abbrev pub AreLeftAlone : List Run → ℕ → ℕ → (ℕ → ℕ) → ℕ → Type 0
AreLeftAlone runs at end m from = (k : ℕ) → at < k → k < end → LeavesAlone m from (run_at runs k)

-- some runs are the first groups of a map, those below a code
abbrev pub IsDone : (ℕ → ℕ) → List Run → ℕ → Type 0
IsDone m runs from = runs ++ groups_from m from ≡ groups_from m 0
