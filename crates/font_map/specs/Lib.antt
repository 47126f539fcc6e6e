pub mod Cmap
pub mod Inside
pub mod Mapping
pub mod Refusals
pub mod Text
