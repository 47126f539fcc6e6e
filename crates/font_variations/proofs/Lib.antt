pub mod FallLemmas
pub mod GvarLemmas
pub mod NumberLemmas
pub mod DataLemmas
pub mod MadeLemmas
pub mod LawLemmas
pub mod ByteLemmas
pub mod GivenLemmas
