pub mod StretchLemmas
pub mod UnionMapLemmas
pub mod RunListLemmas
