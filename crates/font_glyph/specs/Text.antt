-- The text and the number of a refusal, this project's own.
use Rattle.std.specs.Prelude.{ℕ, List, codes}

-- the text of a record that is refused
abbrev pub fault_text : List ℕ
fault_text = codes "bad glyph"

-- its number
abbrev pub fault_number : ℕ
fault_number = 17
