pub mod Fields
pub mod Inside
pub mod Metrics
pub mod OpenedTables
pub mod Outlines
pub mod Refusals
pub mod Tables
pub mod Text
