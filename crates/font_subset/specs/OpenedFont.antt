-- Why a font is not opened for cuts of a kind, this project's own.
use Rattle.std.specs.Prelude.{◌≡◌, ◌≢◌, ℕ, Bool, true, if◌then◌else◌, List, [], ◌∷◌, Option, Some}
use Rattle.std.specs.Option.{option_map}
use Rattle.sfnt_bytes.specs.Lines.{first_of_lines, when}
use Rattle.sfnt_bytes.specs.Refusals.{tag_lines}
use Rattle.font_file.specs.Font.{font_fault}
use Rattle.font_file.specs.declared.font_error.FontError.{FontError}
use Rattle.font_file.specs.declared.font_error.FontError.TheVariants.{BadLayout, BadVariations, Directory}
use Rattle.font_theory.specs.Closed.{is_bad_layout_in}
use Rattle.font_theory.specs.Content.{is_bad_variations_in}
use Rattle.font_theory.specs.Kinds.{fault_of, keeps_sequences, settings, tables_of}
use Rattle.font_theory.specs.declared.kinds.Kind.{Kind}
use Rattle.font_theory.specs.declared.kinds.Kind.TheVariants.{Full, Lean}
use Rattle.font_subset.specs.declared.open_error.OpenError.{OpenError}
use Rattle.font_subset.specs.declared.open_error.OpenError.TheVariants.{NoMemory, Refused}

-- out of memory, which is asked for where variation sequences are read; or the refusal of the file
abbrev pub IsOpenRefusal : Kind → List ℕ → OpenError → Type 0
IsOpenRefusal kind file NoMemory = keeps_sequences kind ≡ true
IsOpenRefusal kind file (Refused error) = fault_of kind file ≡ Some error

-- the refusals of a file for cuts that are closed under links, in their order: of the font, of the directory, of
-- `GSUB`, which no other call reads, and of `gvar`
abbrev pub closing_lines : Kind → List ℕ → List (Option FontError)
closing_lines kind file =
    font_fault file
    ∷ option_map Directory (first_of_lines (tag_lines (settings kind).tags file))
    ∷ when (is_bad_layout_in (tables_of kind file)) BadLayout
    ∷ when (is_bad_variations_in (tables_of kind file)) BadVariations
    ∷ []

-- the first that applies
unfoldable pub closing_fault : Kind → List ℕ → Option FontError
closing_fault kind file = first_of_lines (closing_lines kind file)

-- why a file is refused for cuts of a kind, which are closed under links or not
abbrev pub cutting_fault : Bool → Kind → List ℕ → Option FontError
cutting_fault closes kind file = if closes then closing_fault kind file else fault_of kind file

-- out of memory, which only kinds that read layout tables may be; or the refusal of the file
abbrev pub IsCuttingRefusal : Bool → Kind → List ℕ → OpenError → Type 0
IsCuttingRefusal closes kind file NoMemory = (kind ≢ Full) × (kind ≢ Lean)
IsCuttingRefusal closes kind file (Refused error) = cutting_fault closes kind file ≡ Some error
