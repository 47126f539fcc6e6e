-- A comparison with a file, this project's own.
use Rattle.std.specs.Prelude.{◌≡◌, ℕ, Bool, List, [], ◌∷◌, ◌++◌, Option, Some, length, option_to_list}
use Rattle.font_write.specs.Trace.{IsPrefix, Trace}

-- a file, the front of it that was taken, a byte that was shown and not taken, and whether no more is taken
pub record Comparing : Type 0 where
  pub file : List ℕ
  pub taken : List ℕ
  pub odd : Option ℕ
  pub stopped : Bool

-- what was shown is no front of the file
pub record IsOdd (file taken : List ℕ) (odd : Option ℕ) : Type 0 where
  pub byte : ℕ
  pub is : odd ≡ Some byte
  pub differs : IsPrefix (taken ++ byte ∷ []) file → ⊥

abbrev pub trace_of : Comparing → Trace
trace_of v =
    record {
      fixed = v.file;
      count = length v.taken;
      taken = Some v.taken;
      shown = Some (v.taken ++ option_to_list v.odd);
      stopped = v.stopped;
    }
