pub mod ClashLemmas
pub mod CmapLemmas
pub mod GlyphLemmas
pub mod LawLemmas
pub mod WorkedLemmas
