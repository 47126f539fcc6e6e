-- Lemmas of the crates below, passed on to those above.
pub use Rattle.sfnt_bytes.proofs.RangeLemmas.{range_with_len-step}
pub use Rattle.font_file.proofs.FontLemmas.{directory_fault-accepted}
