pub mod FontLemmas
pub mod RecordLemmas
