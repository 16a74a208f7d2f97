-- The lemmas of this crate.
pub mod ListedGraph
pub mod Numbering
pub mod Parts
pub mod Rising
pub mod ViewLaws
