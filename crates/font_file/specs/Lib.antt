pub mod Font
pub mod Opened
pub mod Text
