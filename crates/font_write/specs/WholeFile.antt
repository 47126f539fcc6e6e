-- The file of a content as it is written today, measured, in memory and sent, this project's own.
use Rattle.std.specs.Prelude.{◌≡◌, ℕ, ◌<◌, ◌≤◌, List, length, take, true, Option}
use Rattle.sfnt_bytes.specs.declared.directory.TheConstants.{MAX_FILE}
use Rattle.streams.specs.Outlet.{WentOut, broken_of, written_of}
use Rattle.streams.specs.declared.outlet.Outlet.{Outlet}
use Rattle.font_theory.specs.Content.{Content}
use Rattle.font_theory.specs.File.{current_writing, current_profile, file}
use Rattle.font_write.specs.Plan.{IsPlan, IsSize}
use Rattle.font_write.specs.declared.cut_error.CutError.{CutError}
use Rattle.font_write.specs.declared.cut_error.CutError.TheVariants as cut_errors
use Rattle.font_write.specs.declared.cut_error.CutIntoError.{CutIntoError}
use Rattle.font_write.specs.declared.cut_error.CutIntoError.TheVariants as into_errors
use Rattle.font_write.specs.declared.plan.Plan.{Plan}
use Rattle.font_write.specs.declared.size.Size.{Size}

-- the file of a content is counted, and not too large
pub record IsFileSize (K : Content) (size : Size) : Type 0 where
  pub counted : IsSize current_writing K size
  pub small : size.bytes ≤ MAX_FILE

-- the plan of the file of a content, and its length, which is not too large
pub record IsMeasured (K : Content) (measured : Plan × ℕ) : Type 0 where
  pub plan : IsPlan K measured.0
  pub profile : measured.0.profile ≡ current_profile
  pub size : measured.1 ≡ length (file current_writing K)
  pub small : length (file current_writing K) ≤ MAX_FILE

-- a size is that of a file, and too large
abbrev pub IsTooLarge : List ℕ → ℕ → Type 0
IsTooLarge whole size = (size ≡ length whole) × (MAX_FILE < size)

-- the bytes are those of a file that is not too large
pub record IsWritten (whole bytes : List ℕ) : Type 0 where
  pub is : bytes ≡ whole
  pub small : length bytes ≤ MAX_FILE

-- why a file is not in memory: out of memory for one that is not too large, or it is too large
abbrev pub IsFileRefusal : List ℕ → CutError → Type 0
IsFileRefusal whole cut_errors.NoMemory = length whole ≤ MAX_FILE
IsFileRefusal whole (cut_errors.TooLarge size) = IsTooLarge whole size

-- why a file was not sent, and what was: nothing of one that is too large, and else, where a write failed, a
-- front of it; no memory is asked for
abbrev pub StopsFile : {W : Type 0} → (W → Option (List ℕ)) → Outlet W → Outlet W → List ℕ → CutIntoError →
    Type 0
StopsFile contents old new whole into_errors.NoMemory = ⊥
StopsFile contents old new whole (into_errors.TooLarge size) = (new ≡ old) × IsTooLarge whole size
StopsFile contents old new whole (into_errors.WriteFault written) =
    (length whole ≤ MAX_FILE) × (broken_of new ≡ true) × (written ≡ written_of new)
    × WentOut contents old new (take written whole)
