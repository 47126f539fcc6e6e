pub mod GroupLemmas
pub mod SegmentLemmas
