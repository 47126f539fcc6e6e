-- The number of a refusal, this project's own.
use Rattle.std.specs.Prelude.{ℕ}
use Rattle.sfnt_bytes.specs.declared.numbers.TheConstants as numbers
use Rattle.font_file.specs.Text.{font_error_number}
use Rattle.font_subset.specs.declared.open_error.OpenError.{OpenError}
use Rattle.font_subset.specs.declared.open_error.OpenError.TheVariants as open_errors

-- that of a font that is not opened for cuts of a kind
abbrev pub open_error_number : OpenError → ℕ
open_error_number open_errors.NoMemory = numbers.NO_MEMORY
open_error_number (open_errors.Refused error) = font_error_number error
