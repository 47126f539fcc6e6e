pub mod Rooms
pub mod Trees
pub mod RowsOf
pub mod Subtrees
pub mod Varying
