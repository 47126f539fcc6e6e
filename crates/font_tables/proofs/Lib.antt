pub mod LengthLemmas
pub mod OffsetLemmas
pub mod OutlineLemmas
pub mod SlotLemmas
pub mod TableLemmas
