-- The numbers of refusals of cuts, this project's own.
use Rattle.std.specs.Prelude.{ℕ}
use Rattle.sfnt_bytes.specs.declared.numbers.TheConstants as numbers
use Rattle.font_write.specs.declared.cut_error.CutError.{CutError}
use Rattle.font_write.specs.declared.cut_error.CutError.TheVariants as cut_errors
use Rattle.font_write.specs.declared.cut_error.CutIntoError.{CutIntoError}
use Rattle.font_write.specs.declared.cut_error.CutIntoError.TheVariants as into_errors

-- that of a cut in memory
abbrev pub cut_error_number : CutError → ℕ
cut_error_number cut_errors.NoMemory = numbers.NO_MEMORY
cut_error_number (cut_errors.TooLarge size) = numbers.TOO_LARGE

-- that of a cut that is sent
abbrev pub cut_into_error_number : CutIntoError → ℕ
cut_into_error_number into_errors.NoMemory = numbers.NO_MEMORY
cut_into_error_number (into_errors.TooLarge size) = numbers.TOO_LARGE
cut_into_error_number (into_errors.WriteFault written) = numbers.WRITE_FAULT
