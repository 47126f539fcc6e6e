pub mod ColourTables
pub mod Laws
pub mod LayerTables
pub mod PaintTables
pub mod Telling
pub mod Ways
pub mod WorkedColours
