-- What a sink has taken, and what a call adds to that, this project's own.
use Rattle.std.specs.Prelude.{◌≡◌, ℕ, ◌+◌, ◌≤◌, Bool, true, false, List, ◌++◌, length, Option, Some, None, Result}
use Rattle.std.specs.Prelude.{MatchResult}
use Rattle.std.specs.Io.KnownBytes.{Appends}
use Rattle.sfnt_bytes.specs.declared.directory.TheConstants.{MAX_FILE}

-- xs is a front of ys
pub record IsPrefix (xs ys : List ℕ) : Type 0 where
  pub rest : List ℕ
  pub whole : xs ++ rest ≡ ys

-- what a sink says of itself
pub record Trace : Type 0 where
  pub fixed : List ℕ  -- what no call changes
  pub count : ℕ  -- how many bytes were taken, and those that there is no room for
  pub taken : Option (List ℕ)  -- which, where they are known
  pub shown : Option (List ℕ)  -- those, and one more that was looked at and not taken
  pub stopped : Bool  -- no more are taken

-- nothing has stopped, and n bytes more are no more than a file may have
pub record HasRoom (trace : Trace) (n : ℕ) : Type 0 where
  pub going : trace.stopped ≡ false
  pub fits : trace.count + n ≤ MAX_FILE

-- where the old bytes are known, the new ones are a front of these and some more
abbrev pub IsFront : Option (List ℕ) → Option (List ℕ) → List ℕ → Type 0
IsFront None new bytes = Unit {0}
IsFront (Some old) new bytes = (front : List ℕ) × (new ≡ Some front) × IsPrefix front (old ++ bytes)

-- all of the bytes were taken
pub record SentAll (old new : Trace) (bytes : List ℕ) : Type 0 where
  pub fixed : new.fixed ≡ old.fixed
  pub count : new.count ≡ old.count + length bytes
  -- where the old bytes are known, the new ones are these and the bytes
  pub taken : Appends old.taken new.taken bytes
  pub going : new.stopped ≡ false

-- a front of the bytes was taken, and it stopped
pub record SentFront (old new : Trace) (bytes : List ℕ) : Type 0 where
  pub front : List ℕ
  pub is_front : IsPrefix front bytes
  pub fixed : new.fixed ≡ old.fixed
  pub count : new.count ≡ old.count + length front
  pub taken : Appends old.taken new.taken front
  pub shown : IsFront old.taken new.shown bytes
  pub stopped : new.stopped ≡ true

-- a call that is to send the bytes
abbrev pub Sends : {A E : Type 0} → Trace → Trace → List ℕ → Result A E → Type 0
Sends old new bytes result = MatchResult result (λ _. SentAll old new bytes) (λ _. SentFront old new bytes)
