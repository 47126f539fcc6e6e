-- Laws of colour tables as divided tables, this project's own, each of them the contract of a function.
use Rattle.std.specs.Prelude.{false}
use Rattle.font_theory.specs.Parting.{IsParting, Parting}
use Rattle.colour_parts.specs.ColourTables.{colours, varying_colours}
use Rattle.colour_parts.specs.LayerTables.{layer_way}
use Rattle.colour_parts.specs.PaintTables.{still_way, varying_way}
use Rattle.colour_parts.specs.Ways.{parting_by}

-- colour tables are divided as is asked, and none is bad
abbrev pub DividesColours : Parting → Type 0
DividesColours D = IsParting (λ _ _. false) D

-- of version 0
abbrev pub LayerTablesAreDivided : Type 0
LayerTablesAreDivided = DividesColours (parting_by layer_way)

-- of version 1
abbrev pub PaintTablesAreDivided : Type 0
PaintTablesAreDivided = DividesColours (parting_by still_way) × DividesColours (parting_by varying_way)

-- and of both
abbrev pub ColourTablesAreDivided : Type 0
ColourTablesAreDivided = DividesColours colours × DividesColours varying_colours
