pub mod Lookups
pub mod Covered
pub mod Substitution
pub mod Shaping
pub mod Laws
pub mod Inside
pub mod WorkedSteps
