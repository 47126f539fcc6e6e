-- Words of private contracts and of proofs: no public clause names them.
use Rattle.std.specs.Prelude.{◌≡◌, ℕ, List, Some}
use Rattle.font_file.specs.Font.{font_fault}
use Rattle.commands.specs.declared.run_error.RunError.{RunError}
use Rattle.commands.specs.declared.run_error.RunError.TheVariants.{Font, Join, Memory, NoGlyph, OneOf, Read, TooLarge}
use Rattle.commands.specs.declared.run_error.RunError.TheVariants.{Write}

-- why there is no text about a file: out of memory, or the file is refused as a font
abbrev pub RefusesText : List ℕ → RunError → Type 0
RefusesText file Memory = Unit {0}
RefusesText file (Font error) = font_fault file ≡ Some error
RefusesText file (OneOf which error) = ⊥
RefusesText file (TooLarge size) = ⊥
RefusesText file (Join error) = ⊥
RefusesText file (Read count) = ⊥
RefusesText file (Write count) = ⊥
RefusesText file (NoGlyph number) = ⊥
