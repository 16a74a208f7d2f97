-- The definitions.
pub mod BuildOrder
pub mod LinkedGraph
pub mod Counts
pub mod Waits
pub mod Untakens
