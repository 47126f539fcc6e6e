pub mod Comparing
pub mod Inside
pub mod Made
pub mod Parts
pub mod Plan
pub mod Text
pub mod Trace
pub mod WholeFile
