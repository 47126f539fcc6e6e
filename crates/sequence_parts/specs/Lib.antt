pub mod Clashes
pub mod Laws
pub mod SequenceCmap
pub mod WorkedParts
