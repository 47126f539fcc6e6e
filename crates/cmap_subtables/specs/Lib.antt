pub mod Format12
pub mod Format4
pub mod Inside
