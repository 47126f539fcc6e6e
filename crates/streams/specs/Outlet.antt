-- What a clause reads of an `Outlet`, this project's own.
use Rattle.std.specs.Prelude.{◌≡◌, ℕ, ◌+◌, Bool, ◌&&◌, List, [], ◌++◌, length, ◌==◌, not, true, Option}
use Rattle.std.specs.Prelude.{IsSomeAnd, codes, decimal}
use Rattle.std.specs.Io.KnownBytes.{Appends}
use Rattle.streams.specs.declared.outlet.Outlet.{Outlet}
use Rattle.streams.specs.declared.outlet.WriteFault.{WriteFault}

-- `outlet.written()`
abbrev pub written_of : {W : Type 0} → Outlet W → ℕ
written_of outlet = outlet.written

-- `outlet.is_broken()`
abbrev pub broken_of : {W : Type 0} → Outlet W → Bool
broken_of outlet = outlet.broken

-- `outlet.is_flushed()`: the writer was flushed after the last byte that it took
abbrev pub flushed_of : {W : Type 0} → Outlet W → Bool
flushed_of outlet = outlet.flushed

-- the outlet was flushed, and its writer holds none of the bytes back that it took
abbrev pub IsFlushed : {W : Type 0} → (W → List ℕ) → Outlet W → Type 0
IsFlushed held outlet = (outlet.flushed ≡ true) × (held outlet.writer ≡ [])

-- `outlet.is_fresh()`: nothing was sent, and nothing has failed
abbrev pub fresh_of : {W : Type 0} → Outlet W → Bool
fresh_of outlet = (outlet.written == 0) && not outlet.broken

-- `outlet.into_inner()`
abbrev pub writer_of : {W : Type 0} → Outlet W → W
writer_of outlet = outlet.writer

-- the writer's bytes are known, and the last of them, as many as were written, are bs
abbrev pub HasSent : {W : Type 0} → (W → Option (List ℕ)) → Outlet W → List ℕ → Type 0
HasSent contents outlet bs =
    IsSomeAnd (contents (writer_of outlet))
    (λ xs. (front : List ℕ) × (xs ≡ front ++ bs) × (length bs ≡ written_of outlet))

-- bs went out between two moments, and nothing before them changed
pub record WentOut {W : Type 0} (contents : W → Option (List ℕ)) (old new : Outlet W) (bs : List ℕ)
    : Type 0 where
  pub appends : Appends (contents (writer_of old)) (contents (writer_of new)) bs
  pub counts : written_of new ≡ written_of old + length bs

-- the text of a write that failed
abbrev pub write_fault_text : WriteFault → List ℕ
write_fault_text fault = codes "write fault after " ++ decimal fault.written
