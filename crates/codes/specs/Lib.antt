pub mod CharacterMap
pub mod Inside
pub mod Order
pub mod Runs
pub mod Text
pub mod Wanted
pub mod Word
