pub mod KeptGlyphs
pub mod CutOfFont
pub mod Inside
pub mod CutOfKind
pub mod ListedRuns
pub mod OpenedFont
pub mod Text
