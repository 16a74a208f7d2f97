-- The definitions.
pub mod Counts
pub mod Graphs
pub mod Projects
