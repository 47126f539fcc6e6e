pub mod Dropping
pub mod Laws
pub mod Texts
