pub mod DropByteLemmas
pub mod DropCutLemmas
pub mod DropFontLemmas
pub mod DropTableLemmas
pub mod ListedLemmas
pub mod TextLemmas
