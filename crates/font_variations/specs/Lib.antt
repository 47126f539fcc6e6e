pub mod Gvar
pub mod Inside
pub mod Laws
pub mod MadeGvar
pub mod WorkedGvar
