-- What a clause reads of an `Inlet`, this project's own.
use Rattle.std.specs.Prelude.{◌≡◌, ℕ, Bool, true, false, List, ◌++◌, length, Option, codes, decimal}
use Rattle.std.specs.Io.KnownBytes.{Consumes}
use Rattle.sfnt_bytes.specs.Text.{no_memory_text}
use Rattle.sfnt_bytes.specs.declared.numbers.TheConstants as numbers
use Rattle.streams.specs.declared.inlet.Inlet.{Inlet}
use Rattle.streams.specs.declared.inlet.ReadError.{ReadError}
use Rattle.streams.specs.declared.inlet.ReadError.TheVariants.{ReadFault, NoMemory}
use Rattle.streams.specs.declared.inlet.State.TheVariants.{Fresh, Spent, Broken}

-- `inlet.is_fresh()`
abbrev pub inlet_fresh_of : {R : Type 0} → Inlet R → Bool
inlet_fresh_of inlet = elim inlet.state [ Fresh ↦ true | Spent ↦ false | Broken ↦ false ]

-- `inlet.is_broken()`
abbrev pub inlet_broken_of : {R : Type 0} → Inlet R → Bool
inlet_broken_of inlet = elim inlet.state [ Fresh ↦ false | Spent ↦ false | Broken ↦ true ]

-- the reader as it stands
abbrev pub reader_of : {R : Type 0} → Inlet R → R
reader_of inlet = inlet.reader

-- `count` bytes came between two moments
abbrev pub Gives : {R : Type 0} (remaining : R → Option (List ℕ)) (old new : Inlet R) → ℕ → Type 0
Gives remaining old new count =
    (bs : List ℕ) × (length bs ≡ count) × Consumes (remaining (reader_of old)) (remaining (reader_of new)) bs

-- how a failed call leaves the inlet
abbrev pub StopsAs : {R : Type 0} (remaining : R → Option (List ℕ)) (old new : Inlet R) → ReadError → Type 0
StopsAs remaining old new (ReadFault count) = (inlet_broken_of new ≡ true) × Gives remaining old new count
StopsAs remaining old new NoMemory = inlet_broken_of new ≡ false

-- the number of a failed read
abbrev pub read_error_number : ReadError → ℕ
read_error_number (ReadFault count) = numbers.READ_FAULT
read_error_number NoMemory = numbers.NO_MEMORY

-- its text
abbrev pub read_error_text : ReadError → List ℕ
read_error_text (ReadFault count) = codes "read fault after " ++ decimal count
read_error_text NoMemory = no_memory_text
