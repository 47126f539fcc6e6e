pub mod Records
pub mod Toys
