pub mod RecordsLemmas
pub mod ToyLemmas
