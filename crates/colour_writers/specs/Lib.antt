pub mod Picked
pub mod Inside
pub mod Plans
