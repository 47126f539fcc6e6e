-- Lists of lines, each of which says something or nothing, this project's own.
use Rattle.std.specs.Prelude.{Bool, List, [], ◌∷◌, if◌then◌else◌, Option, Some, None}

-- a line that says x where its condition holds
abbrev pub when : {X : Type 0} → Bool → X → Option X
when condition x = if condition then Some x else None

-- what the first line that says something says
abbrev pub first_of_lines : {X : Type 0} → List (Option X) → Option X
first_of_lines [] = None
first_of_lines (Some x ∷ lines) = Some x
first_of_lines (None ∷ lines) = first_of_lines lines

-- all that the lines say, in order
abbrev pub said_lines : {X : Type 0} → List (Option X) → List X
said_lines [] = []
said_lines (Some x ∷ lines) = x ∷ said_lines lines
said_lines (None ∷ lines) = said_lines lines
