pub mod Inside
pub mod RunLists
