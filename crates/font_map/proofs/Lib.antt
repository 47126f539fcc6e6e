pub mod ByteLemmas
pub mod MappingLemmas
pub mod LaidOutLemmas
pub mod WantedLemmas
